-- Taking out the text at a place is putting the state without it: the numbers that the code sums up are the lengths of what stands
-- before the gap, in it and after it. Assumes nothing.
use mathlib.Core.Path.{◌≡◌, refl, sym, ap, ap₂, subst, ◌∙◌}
use mathlib.Core.List.{List, [], ◌∷◌, ◌++◌, map, append_assoc}
use Prim.Native.Nat.{ℕ, suc, ◌+◌, ◌-◌, ◌/◌, ◌<◌}
use native.Mathlib.Nat.{add-zero}
use native.Mathlib.Omega.{arith}
use lib.ListN.{length, take, drop, get_or, length-append}
use lib.Seq.{get_or-take, get_or-drop, drop_at}
use Rattle.statement.specs.Statements.{Statement}
use Rattle.words.specs.Halves.{HALF, upper, lower, sum}
use Rattle.words.specs.Over.{over, part}
use Rattle.words.proofs.Halves.{lower-joined}
use Rattle.words.proofs.Each.{Words}
use Rattle.plain.proofs.Each.{Each, each_left, each_right}
use Rattle.layout.specs.State.{Text, Pool, program, flat, values_of, bytes_of, values, string_bytes}
use Rattle.layout.specs.Limits.{TEXTS_AT, HEADS_AT, NAMES_AT, VALUES_AT}
use Rattle.layout.specs.Memory.{NONE_OPEN, text_count, statement_count, value_count, byte_count, value_words, bytes_taken, text_word, head_word, put}
use Rattle.layout.specs.Damage.{total_bytes}
use Rattle.layout.proofs.Columns.{At, at_left, at_right, close_columns, flat_append, flat_map}
use Rattle.layout.proofs.Spelling.{brief-fair}
use Rattle.layout.proofs.Codec.{Short, each-short, each-short-text, sum-texts, sum-heads, head-rest, head_bytes, length-laid-names}
use Rattle.layout.proofs.Legal.{Fair, program-append, values-append, bytes-append}
use Rattle.layout.proofs.Holds.{Holds, per_text, per_statement, inked_at, holds_texts, holds-statements, length-laid-texts, length-laid-heads, holds-framed}
use Rattle.layout.proofs.Changes as changes
use Rattle.removing.specs.Gaps.{text_gap, statement_gap, value_gap, byte_gap, statements_before, statements_inside, values_before, values_inside, bytes_before, bytes_inside, closing, closing_bytes, fourfold, left, closed, taken_out, Gapped}
use Rattle.removing.specs.declared.gap.Gap.{Gap}

-- the words that a text and a statement have in their first columns
abbrev word : Text → List ℕ
word t = text_word t ∷ []

abbrev head : Statement → List ℕ
head x = head_word x ∷ []

abbrev gap : (before inside after : ℕ) → Gap
gap before inside after = record { before = before; inside = inside; after = after }

-- the first word that stands at a place
at_first : (o x : ℕ) (xs m : List ℕ) → At o (x ∷ xs) m → get_or m o 0 ≡ x
at_first o x xs m h =
    ap (λ (k : ℕ). get_or m k 0) (sym (add-zero o)) ∙ sym (get_or-drop o m 0 0)
    ∙ sym (get_or-take (suc (length xs)) (drop o m) 0 0 (omega arith)) ∙ ap (λ (l : List ℕ). get_or l 0 0) h

-- heads that count values take as many bytes as the strings among these have, whatever values follow
bytes-front : (ss : List Statement) (vs : List ℕ) → Each Fair ss → Each Short ss → total_bytes (map head_word ss) (flat values_of ss ++ vs) ≡ length (flat bytes_of ss)
unfolding total_bytes flat
bytes-front [] vs f g = refl
bytes-front (x ∷ ss) vs f g =
    let k = upper (head_word x) / 2 in
    let n = lower (head_word x) in
    let r = flat values_of ss ++ vs in
    let e : total_bytes (map head_word ss) (drop n (values_of x ++ r)) ≡ length (flat bytes_of ss) =
    ap (total_bytes (map head_word ss)) (head-rest x g.0 r) ∙ bytes-front ss vs f.1 g.1 in
    ap (λ (l : List ℕ). bytes_taken k (take n l) + total_bytes (map head_word ss) (drop n l)) (append_assoc (values_of x) (flat values_of ss) vs)
    ∙ omega (arith, head_bytes x g.0 r (brief-fair x.values f.0.values), e, length-append (bytes_of x) (flat bytes_of ss))

-- the heads of statements that stand at a place
heads-part : (o : ℕ) (ss : List Statement) (m : List ℕ) → At o (flat head ss) m → (k : ℕ) → k ≡ length ss → part o k m ≡ map head_word ss
heads-part o ss m h k e = ap (λ (j : ℕ). part o j m) (e ∙ sym (length-laid-heads ss)) ∙ h ∙ flat_map head_word ss

module _ (m : List ℕ) (a : Pool) (t : Text) (b : Pool) (H : Holds m (a ++ (t ∷ b))) (F : Each Fair (program (a ++ (t ∷ b)))) where
  abbrev values-t : List ℕ
  values-t = flat values_of t.body

  abbrev bytes-t : List ℕ
  bytes-t = flat bytes_of t.body

  -- ---- the areas, before the gap and from there on

  parted : program (a ++ (t ∷ b)) ≡ program a ++ (t.body ++ program b)
  parted = changes.program-parted m a t b H

  texts-at : At TEXTS_AT (flat word a ++ flat word (t ∷ b)) m
  texts-at = subst (λ (l : List ℕ). At TEXTS_AT l m) (flat_append word a (t ∷ b)) (holds_texts m (a ++ (t ∷ b)) H).0

  heads-at : At HEADS_AT (flat head (program a) ++ (flat head t.body ++ flat head (program b))) m
  heads-at =
      subst (λ (l : List ℕ). At HEADS_AT l m)
      (ap (flat head) parted ∙ flat_append head (program a) (t.body ++ program b) ∙ ap (λ (l : List ℕ). flat head (program a) ++ l) (flat_append head t.body (program b)))
      (holds-statements m (a ++ (t ∷ b)) H).0

  -- ---- the counts

  count-texts : length a + 1 + length b ≡ text_count m
  count-texts = omega (arith, H.text_count=, length-append a (t ∷ b))

  count-statements : length (program a) + length t.body + length (program b) ≡ statement_count m
  count-statements = omega (arith, H.statement_count=, ap length parted, length-append (program a) (t.body ++ program b), length-append t.body (program b))

  values-parted : values (a ++ (t ∷ b)) ≡ values a ++ (values-t ++ values b)
  values-parted = ap (flat values_of) parted ∙ flat_append values_of (program a) (t.body ++ program b) ∙ ap (λ (l : List ℕ). values a ++ l) (flat_append values_of t.body (program b))

  count-values : length (values a) + length values-t + length (values b) ≡ value_count m
  count-values = omega (arith, H.value_count=, ap length values-parted, length-append (values a) (values-t ++ values b), length-append values-t (values b))

  count-bytes : length (string_bytes a) + length bytes-t + length (string_bytes b) ≡ byte_count m
  count-bytes =
      omega (arith, H.byte_count=, ap length (changes.bytes-parted m a t b H), length-append (string_bytes a) (bytes-t ++ string_bytes b), length-append bytes-t (string_bytes b))

  -- ---- the sums

  few-statements : length (program a) + length t.body < HALF
  few-statements = omega (arith, count-statements, H.statement_count=, H.fits.statements)

  few-values : length (values a) + length values-t < HALF
  few-values = omega (arith, count-values, H.value_count=, H.fits.values)

  before-statements : statements_before (length a) m ≡ length (program a)
  before-statements =
      ap (λ (k : ℕ). sum (part TEXTS_AT k m)) (sym (length-laid-texts a)) ∙ ap sum (at_left TEXTS_AT (flat word a) (flat word (t ∷ b)) m texts-at ∙ flat_map text_word a)
      ∙ sum-texts a (each-short-text a (omega (arith, few-statements)))

  inside-statements : statements_inside (length a) m ≡ length t.body
  unfolding flat
  inside-statements =
      let f : get_or m (TEXTS_AT + length (flat word a)) 0 ≡ text_word t = at_first (TEXTS_AT + length (flat word a)) (text_word t) (flat word b) m (at_right TEXTS_AT (flat word a) (flat word (t ∷ b)) m texts-at) in
      ap lower (ap (λ (k : ℕ). get_or m (TEXTS_AT + k) 0) (sym (length-laid-texts a)) ∙ f) ∙ lower-joined t.label (length t.body) (omega (arith, few-statements))

  -- ---- the gaps

  abbrev p : ℕ
  p = length a

  abbrev s : Gap
  s = statement_gap p m

  heads-before : part HEADS_AT s.before m ≡ map head_word (program a)
  heads-before = heads-part HEADS_AT (program a) m (at_left HEADS_AT (flat head (program a)) (flat head t.body ++ flat head (program b)) m heads-at) s.before before-statements

  heads-inside : part (HEADS_AT + s.before) s.inside m ≡ map head_word t.body
  heads-inside =
      let o = HEADS_AT + length (flat head (program a)) in
      let h = at_right HEADS_AT (flat head (program a)) (flat head t.body ++ flat head (program b)) m heads-at in
      ap (λ (k : ℕ). part (HEADS_AT + k) s.inside m) (before-statements ∙ sym (length-laid-heads (program a)))
      ∙ heads-part o t.body m (at_left o (flat head t.body) (flat head (program b)) m h) s.inside inside-statements

  short-before : Each Short (program a)
  short-before = each-short (program a) (omega (arith, few-values))

  short-inside : Each Short t.body
  short-inside = each-short t.body (omega (arith, few-values))

  values-before : values_before s m ≡ length (values a)
  values-before = ap sum heads-before ∙ sum-heads (program a) short-before

  values-inside : values_inside s m ≡ length values-t
  values-inside = ap sum heads-inside ∙ sum-heads t.body short-inside

  fair-parted : Each Fair (program a ++ (t.body ++ program b))
  fair-parted = subst (Each Fair) parted F

  values-held : value_words m ≡ values a ++ (values-t ++ values b)
  values-held = H.values ∙ values-parted

  values-behind : drop (values_before s m) (value_words m) ≡ values-t ++ values b
  values-behind = ap₂ drop values-before values-held ∙ drop_at (values a) (values-t ++ values b) (length (values a)) refl

  bytes-before : bytes_before s m ≡ length (string_bytes a)
  bytes-before = ap₂ total_bytes heads-before values-held ∙ bytes-front (program a) (values-t ++ values b) (each_left Fair (program a) (t.body ++ program b) fair-parted) short-before

  bytes-inside : bytes_inside s m ≡ length bytes-t
  bytes-inside =
      ap₂ total_bytes heads-inside values-behind
      ∙ bytes-front t.body (values b) (each_left Fair t.body (program b) (each_right Fair (program a) (t.body ++ program b) fair-parted)) short-inside

  pub gapped : Gapped p m
  gapped = record {
    text = omega (arith, count-texts);
    rest = record {
      sizes = holds-framed m (a ++ (t ∷ b)) H;
      statements = omega (arith, before-statements, inside-statements, count-statements);
      values = omega (arith, values-before, values-inside, count-values);
      bytes = omega (arith, bytes-before, bytes-inside, count-bytes);
    };
  }

  text-gap : text_gap p m ≡ gap (length (flat word a)) (length (flat word (t ∷ []))) (length (flat word b))
  text-gap =
      let x : p ≡ length (flat word a) = sym (length-laid-texts a) in
      let y : 1 ≡ length (flat word (t ∷ [])) = sym (length-laid-texts (t ∷ [])) in
      let z : text_count m - p - 1 ≡ length (flat word b) = omega (arith, count-texts, length-laid-texts b) in
      λ i. gap (x i) (y i) (z i)

  statement-gap : s ≡ gap (length (program a)) (length t.body) (length (program b))
  statement-gap =
      let z : s.after ≡ length (program b) = omega (arith, before-statements, inside-statements, count-statements) in
      λ i. gap (before-statements i) (inside-statements i) (z i)

  value-gap : value_gap s m ≡ gap (length (values a)) (length values-t) (length (values b))
  value-gap =
      let z : (value_gap s m).after ≡ length (values b) = omega (arith, values-before, values-inside, count-values) in
      λ i. gap (values-before i) (values-inside i) (z i)

  byte-gap : byte_gap s m ≡ gap (length (string_bytes a)) (length bytes-t) (length (string_bytes b))
  byte-gap =
      let z : (byte_gap s m).after ≡ length (string_bytes b) = omega (arith, bytes-before, bytes-inside, count-bytes) in
      λ i. gap (bytes-before i) (bytes-inside i) (z i)

  -- closed by these numbers, the strings' bytes are closed, and every column is
  bytes-closed : closing_bytes (byte_gap s m) m ≡ inked_at (length (string_bytes a)) (string_bytes b) m
  bytes-closed = ap (λ (g : Gap). closing_bytes g m) byte-gap ∙ ap (λ (l : List ℕ). inked_at (length (string_bytes a)) l m) (changes.bytes-behind m a t b H)

  columns : closed (text_gap p m) s (value_gap s m) (byte_gap s m) m
      ≡ close_columns per_statement (program a) t.body (program b) (close_columns per_text a (t ∷ []) b (inked_at (length (string_bytes a)) (string_bytes b) m))
  unfolding closed
  columns =
      (λ i. closing VALUES_AT (value-gap i) (closing NAMES_AT (fourfold (statement-gap i)) (closing HEADS_AT (statement-gap i) (closing TEXTS_AT (text-gap i) (bytes-closed i)))))
      ∙ sym (λ i. closing VALUES_AT (gap (length (values a)) (length values-t) (length (values b)))
      (closing NAMES_AT (gap (length-laid-names (program a) i) (length-laid-names t.body i) (length-laid-names (program b) i))
      (closing HEADS_AT (gap (length-laid-heads (program a) i) (length-laid-heads t.body i) (length-laid-heads (program b) i))
      (closing TEXTS_AT (gap (length (flat word a)) (length (flat word (t ∷ []))) (length (flat word b))) (inked_at (length (string_bytes a)) (string_bytes b) m)))))

  pub taken-out : Words m → taken_out p m ≡ put (a ++ b) m
  unfolding taken_out
  taken-out w =
      let x : left (text_gap p m) ≡ length (a ++ b) = omega (arith, count-texts, length-append a b) in
      let y : left s ≡ length (program (a ++ b)) = omega (arith, before-statements, inside-statements, count-statements, ap length (program-append a b), length-append (program a) (program b)) in
      let z : left (value_gap s m) ≡ length (values (a ++ b)) = omega (arith, values-before, values-inside, count-values, ap length (values-append a b), length-append (values a) (values b)) in
      let u : left (byte_gap s m) ≡ length (string_bytes (a ++ b)) =
      omega (arith, bytes-before, bytes-inside, count-bytes, ap length (bytes-append a b), length-append (string_bytes a) (string_bytes b)) in
      (λ i. over 0 (x i ∷ y i ∷ z i ∷ u i ∷ NONE_OPEN ∷ []) (columns i)) ∙ changes.closed m a t b H w
