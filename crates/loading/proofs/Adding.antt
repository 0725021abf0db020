-- A text that is accepted, written behind what is held, is the state with one text more. Assumes nothing.
use Prim.Native.Nat.{ℕ, ◌+◌, ◌*◌}
use native.Mathlib.Omega.{arith}
use mathlib.Core.Path.{◌≡◌, refl, sym, ap, subst, ◌∙◌}
use mathlib.Core.List.{List, [], ◌∷◌}
use lib.ListN.{length, length-append}
use Rattle.statement.specs.Statements.{Event, Values, numbers, strings, joined_length, how_long, Statement, statements, openings, givings, bytes_given}
use Rattle.text.specs.Text.{fine, read_text}
use Rattle.text.specs.Text as T
use Rattle.text.proofs.Legal.{total, total_length, none-loose}
use Rattle.text.proofs.Totals.{statements-counted, values-counted, bytes_given-counted}
use Rattle.words.specs.Halves.{HALF}
use Rattle.words.specs.Over.{over}
use Rattle.words.proofs.Each.{Words}
use Rattle.words.proofs.Over.{length_over}
use Rattle.layout.specs.State.{Pool, program, flat, spelled, values_of, bytes_of, values, string_bytes}
use Rattle.layout.specs.Limits.{WORDS, TEXTS_AT, HEADS_AT, NAMES_AT, VALUES_AT}
use Rattle.layout.specs.Memory.{text_count, statement_count, value_count, byte_count, text_word, head_word, name_of, decode, NONE_OPEN, put}
use Rattle.layout.proofs.Changes.{ink-add, added}
use Rattle.layout.proofs.Codec.{length-laid-names}
use Rattle.layout.proofs.Columns.{add_columns}
use Rattle.layout.proofs.Holds.{holds-decode, per_text, per_statement, inked_at, texts-before, room-texts, length-laid-texts, length-laid-heads}
use Rattle.layout.proofs.Legal.{fits-of}
use Rattle.layout.proofs.Sound.{sound-of}
use Rattle.layout.proofs.Spelling.{length-words}
use Rattle.loading.specs.Load.{text_of, with, Counted, Accepts}
use Rattle.page.specs.Writing.{Page, page, pen_behind, written_on}
use Rattle.writing.specs.Pens.{Admits}
use Rattle.page.specs.declared.pen.Pen.{Pen}
use Rattle.pool.proofs.Inking.{ink-none, ink-over}
use Rattle.loading.proofs.Kept.{read_whole}
use Rattle.loading.proofs.Laid.{laid_on, Apart, Even, all-written}
use Rattle.loading.proofs.Rooms.{Leaves, fits-leaves, texts-with, statements-with, values-with, bytes-with}

-- ---- the counts of an admitted text

values-total : (ss : List Statement) → length (flat values_of ss) ≡ total ss
unfolding flat
values-total [] = refl
values-total (s ∷ ss) = omega (arith, length-append (values_of s) (flat values_of ss), length-words s.values, values-total ss)

joined-long : (ss : List (List ℕ)) → length (flat (λ s. s) ss) ≡ joined_length ss
unfolding flat
joined-long [] = refl
joined-long (s ∷ ss) = omega (arith, length-append s (flat (λ s. s) ss), joined-long ss)

pub spelled-long : (v : Values) → length (spelled v) ≡ how_long v
spelled-long (numbers bits) = refl
spelled-long (strings ss) = joined-long ss

bytes-total : (ss : List Statement) → length (flat bytes_of ss) ≡ total_length ss
unfolding flat
bytes-total [] = refl
bytes-total (s ∷ ss) = omega (arith, length-append (bytes_of s) (flat bytes_of ss), spelled-long s.values, bytes-total ss)

module _ (label : ℕ) (bytes : List ℕ) (es : List Event) (e : read_text bytes ≡ fine es) where
  pub body-read : (text_of label bytes).body ≡ statements es
  unfolding text_of
  body-read = rw e

  pub body-counted : (n k b : ℕ) → openings es ≡ n → givings es ≡ k → bytes_given es ≡ b → Counted (text_of label bytes) n k b
  body-counted n k b o g l = record {
    statements= = ap length body-read ∙ statements-counted bytes es e ∙ o;
    values= = ap (λ (ss : List Statement). length (flat values_of ss)) body-read ∙ values-total (statements es) ∙ values-counted bytes es e ∙ g;
    bytes= = ap (λ (ss : List Statement). length (flat bytes_of ss)) body-read ∙ bytes-total (statements es) ∙ bytes_given-counted bytes es e ∙ l;
  }

-- ---- what is written behind what is held

-- statements laid out behind others are an addition to each of their columns
behind-columns : (before ss : List Statement) (m : List ℕ) (pen : Pen)
    → pen.heads ≡ HEADS_AT + length (flat (λ x. head_word x ∷ []) before) → pen.names ≡ NAMES_AT + length (flat name_of before)
    → pen.values ≡ VALUES_AT + length (flat values_of before)
    → laid_on ss (page m pen) ≡ add_columns per_statement before ss (inked_at pen.bytes (flat bytes_of ss) m)
behind-columns before ss m pen h i j = rw (h, i, j)

-- a text's word behind others is an addition to the texts' column
behind-texts : (label : ℕ) (bytes : List ℕ) (s : Pool) (m : List ℕ) (count n : ℕ) → count ≡ length s → length (text_of label bytes).body ≡ n
    → over (TEXTS_AT + count) ((label * HALF + n) ∷ []) m ≡ add_columns per_text s (text_of label bytes ∷ []) m
unfolding flat text_of
behind-texts label bytes s m count n c l =
    let q : TEXTS_AT + count ≡ TEXTS_AT + length (flat (λ t. text_word t ∷ []) s) = omega (arith, length-laid-texts s) in
    rw (q, sym l)

-- the pen behind all that is held
abbrev pub pen_of : List ℕ → Pen
pen_of m = pen_behind (statement_count m) (value_count m) (byte_count m)

module _ (label : ℕ) (bytes : List ℕ) (n k b : ℕ) (m : List ℕ) (a : Accepts label bytes n k b m) where
  counted : Counted (text_of label bytes) n k b
  counted = body-counted label bytes a.events a.reads n k b a.opens a.gives a.spells

  pub leaves : Leaves m n k b
  leaves = fits-leaves m a.undamaged (text_of label bytes) n k b counted (fits-of (with (decode m) (text_of label bytes)) a.roomy)

  -- the text can be written behind what is held
  admits-behind : Admits bytes (pen_of m)
  admits-behind =
      let l = leaves in
      let o = a.opens in
      let g = a.gives in
      let s = a.spells in
      record {
        events = a.events;
        reads = a.reads;
        long = a.long;
        room = record {
          some = omega arith;
          heads = omega (arith, l.statements);
          names = omega (arith, l.statements);
          values = omega (arith, l.values);
          bytes = omega (arith, l.bytes);
          head = omega arith;
        };
      }

  pub admits : (p : Pen) → p ≡ pen_of m → Admits bytes p
  admits p e = subst (Admits bytes) (sym e) admits-behind

  module _ (m1 : List ℕ) (e1 : m1 ≡ over (TEXTS_AT + text_count m) ((label * HALF + n) ∷ []) m) where
    sized : length m1 ≡ WORDS
    sized = ap length e1 ∙ length_over (TEXTS_AT + text_count m) ((label * HALF + n) ∷ []) m ∙ (sound-of m a.undamaged).sizes.words

    even : Words m → Even (page m1 (pen_of m))
    even w =
        let at = TEXTS_AT + text_count m in
        let x = (label * HALF + n) ∷ [] in
        record {
          long = sized;
          still = ap (inked_at (byte_count m) []) e1 ∙ ink-over (byte_count m) [] m (sound-of m a.undamaged).sizes.words at x (omega (arith, leaves.texts)) ∙ ap (over at x) (ink-none (byte_count m) m w) ∙ sym e1;
        }

    -- the text's word and what the text adds, column by column
    columns : Words m → (m3 : List ℕ) (end : Pen) → page m3 end ≡ written_on (T.added (read_text bytes)) (page m1 (pen_of m))
        → m3
        ≡ add_columns per_statement (program (decode m)) (text_of label bytes).body
        (add_columns per_text (decode m) (text_of label bytes ∷ []) (inked_at (length (string_bytes (decode m))) (flat bytes_of (text_of label bytes).body) m))
    columns w m3 end e3 =
        let s = decode m in
        let t = text_of label bytes in
        let bs = flat bytes_of t.body in
        let es = a.events in
        let l = leaves in
        let p = pen_of m in
        let hold = holds-decode m (sound-of m a.undamaged) w in
        let c : length (statements es) ≡ n = statements-counted bytes es a.reads ∙ a.opens in
        let apart : Apart p (length (statements es)) (givings es) = record {
          some = omega arith;
          heads = omega (arith, l.statements);
          names = omega (arith, l.statements);
          values = omega (arith, l.values, a.gives);
        } in
        let x3 : m3 ≡ laid_on t.body (page m1 p) =
        ap (λ (x : Page). x.memory) (e3 ∙ (λ i. written_on (T.added (a.reads i)) (page m1 p)))
        ∙ all-written es (page m1 p) (none-loose bytes es a.reads) (read_whole bytes es a.reads) (even w) apart
        ∙ ap (λ (ss : List Statement). laid_on ss (page m1 p)) (sym (body-read label bytes es a.reads)) in
        let x4 : laid_on t.body (page m1 p) ≡ add_columns per_statement (program s) t.body (inked_at (byte_count m) bs m1) = behind-columns (program s) t.body m1 p
        (omega (arith, length-laid-heads (program s), hold.statement_count=)) (omega (arith, length-laid-names (program s), hold.statement_count=)) (omega (arith, hold.value_count=)) in
        let x1 : m1 ≡ add_columns per_text s (t ∷ []) m = e1 ∙ behind-texts label bytes s m (text_count m) n hold.text_count= counted.statements= in
        let x2 : inked_at (byte_count m) bs m1 ≡ add_columns per_text s (t ∷ []) (inked_at (length (string_bytes s)) bs m) =
        (λ i. inked_at (hold.byte_count= i) bs (x1 i))
        ∙ sym (ink-add per_text (length (string_bytes s)) bs m hold.words texts-before s (t ∷ []) (room-texts (with s t) (omega (arith, (fits-of (with s t) a.roomy).texts)))) in
        x3 ∙ x4 ∙ ap (add_columns per_statement (program s) t.body) x2

  -- what is written, with the text's word before it and the words in front behind it
  pub added-put : Words m → (m1 m3 m4 : List ℕ) (p end : Pen) → p ≡ pen_of m
      → m1 ≡ over (TEXTS_AT + text_count m) ((label * HALF + n) ∷ []) m
      → page m3 end ≡ written_on (T.added (read_text bytes)) (page m1 p)
      → m4 ≡ over 0 ((text_count m + 1) ∷ (statement_count m + n) ∷ (value_count m + k) ∷ (byte_count m + b) ∷ NONE_OPEN ∷ []) m3
      → m4 ≡ put (with (decode m) (text_of label bytes)) m
  added-put w m1 m3 m4 p end q e1 e3 e4 =
      let s = decode m in
      let t = text_of label bytes in
      let hold = holds-decode m (sound-of m a.undamaged) w in
      let x = columns m1 e1 w m3 end (e3 ∙ ap (λ (r : Pen). written_on (T.added (read_text bytes)) (page m1 r)) q) in
      let q0 : text_count m + 1 ≡ length (with s t) = omega (arith, hold.text_count=, texts-with s t) in
      let q1 : statement_count m + n ≡ length (program (with s t)) = omega (arith, hold.statement_count=, statements-with s t, counted.statements=) in
      let q2 : value_count m + k ≡ length (values (with s t)) = omega (arith, hold.value_count=, values-with s t, counted.values=) in
      let q3 : byte_count m + b ≡ length (string_bytes (with s t)) = omega (arith, hold.byte_count=, bytes-with s t, counted.bytes=) in
      e4 ∙ (λ i. over 0 (q0 i ∷ q1 i ∷ q2 i ∷ q3 i ∷ NONE_OPEN ∷ []) (x i)) ∙ added m s t hold (fits-of (with s t) a.roomy) w
