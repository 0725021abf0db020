-- A line without a fault, written with the pen behind what stands of the text, leaves the statements with what it adds, laid: it opens one behind
-- them, with a place held where it has no value, or it gives values to the last one. Assumes nothing.
use Prim.Native.Nat.{ℕ, ◌+◌, ◌-◌, ◌≤◌}
use native.Mathlib.Omega.{arith}
use mathlib.Core.Path.{◌≡◌, refl, sym, ap, subst, ◌∙◌}
use mathlib.Core.Bool.{Bool, true, false}
use mathlib.Core.List.{List, [], ◌∷◌, ◌++◌, map}
use borrow.Author.Tests.{ltb-false}
use lib.Dec.{ltb}
use lib.Ieee.{binary64, to_bits, of_bits}
use lib.ListN.{length, drop, get_or, length-append}
use lib.Seq.{get_or-take, get_or-drop, get_or-append-add}
use Rattle.std.specs.Prelude.{if◌then◌else◌}
use Rattle.plain.proofs.Each.{Each, each_left, each_right}
use Rattle.plain.proofs.Tests.{true-false}
use Rattle.value.specs.Value.{Value, number, string}
use Rattle.value.specs.declared.faults.Fault.TheVariants as F
use Rattle.statement.specs.Statements.{Event, opened, value, Values, numbers, Statement, openings, givings}
use Rattle.statement.specs.declared.head.Operator.{Operator}
use Rattle.statement.specs.declared.head.Operator.TheVariants as O
use Rattle.statement.specs.declared.values.Kind.{Kind}
use Rattle.statement.specs.declared.values.Kind.TheVariants as K
use Rattle.statement.specs.declared.values.Reader.{Reader}
use Rattle.statement.specs.declared.values.Reader.TheVariants as R
use Rattle.statement.proofs.Events.{openings-values, givings-values}
use Rattle.statement.proofs.OneKind.{LegalValue, Taking, Led, all-kept}
use Rattle.text.specs.Delimiters.{mark_of}
use Rattle.text.specs.Lengths.{LONGEST_LINE, too_long}
use Rattle.text.specs.Line.{next, fault, marked, answered}
use Rattle.text.specs.declared.delimiters.Mark.{Mark}
use Rattle.text.specs.declared.delimiters.Mark.TheVariants as M
use Rattle.words.specs.Halves.{upper}
use Rattle.words.specs.Over.{part}
use Rattle.octets.proofs.Bytes.{Bytes}
use Rattle.layout.specs.State.{Pool, program, flat, words_of, values_of, bytes_of, values, string_bytes}
use Rattle.layout.specs.Limits.{TEXTS, HEADS_AT}
use Rattle.layout.specs.Memory.{statement_count, value_count, byte_count, decode, head_word, laid_behind}
use Rattle.layout.proofs.Codec.{each-short, operators-laid}
use Rattle.layout.proofs.Columns.{flat_append, flat-one}
use Rattle.layout.proofs.Holds.{inked_at, length-program, length-held, length-bytes-held, length-laid-heads}
use Rattle.layout.proofs.Legal.{Fair}
use Rattle.layout.proofs.Sound.{Orderly, orderly-of}
use Rattle.page.specs.Pens.{Stretches, Tells}
use Rattle.page.specs.Writing.{page, bare_head, opened_on, written_on}
use Rattle.loading.proofs.Admitted.{Small}
use Rattle.loading.proofs.Kept.{statement_of}
use Rattle.writing.specs.Pens.{Roomy}
use Rattle.bookmark.specs.declared.mark.Entered.{Entered}
use Rattle.opening.specs.Storing.{of_kind, on_last, extended, fitting}
use Rattle.opening.proofs.Extending.{stating, extended-opened, extended-given}
use Rattle.opening.proofs.Fitting.{Fitted, fitted_of}
use Rattle.opening.proofs.Lines.{Sort, Holds, Faultless, every-line}
use Rattle.opening.proofs.Placing.{last_of}
use Rattle.entering.specs.Entries.{entry, body_of}
use Rattle.entering.specs.Counts.{places_of, places}
use Rattle.entering.specs.Pens.{pen_at, Penned, ZERO, place_on}
use Rattle.entering.specs.Lines.{Fills, Listing, Bears, Ready}
use Rattle.entering.proofs.Further.{Behind, Room, Within, length_last, heads}
use Rattle.entering.proofs.Going.{kept_words, having, Continues, continues}
use Rattle.entering.proofs.Written.{opened-laid, given-laid}
use Rattle.entering.proofs.Laying.{bytes-fair, lying}
use Rattle.entering.proofs.Counting.{places-held}

-- what holds of every line holds of this one
pub at-line : (Q : Sort) → Holds Q → (r : Reader) (line : List ℕ) (q : Reader) (es : List Event) → answered r line ≡ next q es → Q r q es
at-line Q h r line q es e = subst (Faultless Q r) e (every-line Q h r line)

-- ---- a line that adds something is short

fits_line : (t : Mark) (r : Reader) (line : List ℕ) (q : Reader) (es : List Event) → too_long t r (length line) ≡ false → marked t r line ≡ next q es
    → 1 ≤ openings es + givings es → length line ≤ LONGEST_LINE
fits_line t r line q es = by (ltb LONGEST_LINE (length line)) refl t r
  where
    by : (x : Bool) → ltb LONGEST_LINE (length line) ≡ x → (t : Mark) (r : Reader) → too_long t r (length line) ≡ false → marked t r line ≡ next q es
        → 1 ≤ openings es + givings es → length line ≤ LONGEST_LINE
    by false f t r l e h = ltb-false LONGEST_LINE (length line) f
    by true f M.Plain R.Text l e h = let z : [] ≡ es = cc in absurd (omega (arith, ap openings z, ap givings z))
    by true f M.Plain R.Data l e h = true-false (rw f at l)
    by true f M.Plain (R.List k) l e h = true-false (rw f at l)
    by true f M.Data r l e h = true-false (rw f at l)
    by true f M.Text r l e h = true-false (rw f at l)

pub short-line : (r : Reader) (line : List ℕ) (q : Reader) (es : List Event) → answered r line ≡ next q es → 1 ≤ openings es + givings es → length line ≤ LONGEST_LINE
unfolding answered
short-line r line q es = by (too_long (mark_of line) r (length line)) refl
  where
    by : (x : Bool) → too_long (mark_of line) r (length line) ≡ x → (if x then fault F.TooLong LONGEST_LINE else marked (mark_of line) r line) ≡ next q es
        → 1 ≤ openings es + givings es → length line ≤ LONGEST_LINE
    by true f e h = let z : ◌≡◌ {A = ℕ} 0 1 = cc in absurd (omega arith)
    by false f e h = fits_line (mark_of line) r line q es f e h

-- ---- the text as it stands before a line

-- the number +0
zero_bits : to_bits binary64 ZERO ≡ 0
unfolding to_bits of_bits
zero_bits = refl

-- the head of a statement without values
bare-tag : (o : Operator) → upper (bare_head o) ≤ 3
bare-tag O.Direct = omega arith
bare-tag O.Append = omega arith

-- a list's values, without a place that is held
kept-count : (k : Kind) (old : Values) → Fills k old → length (words_of old) ≡ length (kept_words k old) + places_of k
kept-count K.Empty old f = ap (λ (v : Values). length (words_of v)) f
kept-count K.Numbers old f = omega arith
kept-count K.Strings old f = omega arith

bytes_one : (x : Statement) → Fair x → Bytes (bytes_of x)
bytes_one x f = subst Bytes (flat-one bytes_of x) (bytes-fair (x ∷ []) (f, tt))

room_of : (s : Pool) (ss : List Statement) → Fitted s ss → Room s ss
room_of s ss F = record { statements = F.statements; values = F.values }

module _ (m : List ℕ) (e : Entered) (a : Ready m e) where
  abbrev s : Pool
  s = decode m

  abbrev body : List Statement
  body = body_of (entry m e)

  pub ordered : Orderly TEXTS m
  ordered = orderly-of TEXTS m (omega arith) a.held

  pub fitted : Fitted s body
  fitted = fitted_of s body a.storable.fits

  -- the totals are what is held
  pub held= : length (program s) ≡ statement_count m
  held= = length-program m ordered

  pub given= : length (values s) ≡ value_count m
  given= = length-held m ordered

  pub spelled= : length (string_bytes s) ≡ byte_count m
  spelled= = length-bytes-held m ordered

  -- no bytes written change nothing
  pub still : (k : ℕ) → inked_at k [] m ≡ m
  still k = subst (λ (l : List ℕ). inked_at k [] l ≡ l) a.stands ((lying m ordered body fitted a.storable.fair).still k)

  -- the head of the statement stored last
  last_word : (k : Kind) (d : Listing k body) → get_or m (HEADS_AT + (statement_count m + e.statements) - 1) 0 ≡ head_word d.last
  unfolding flat
  last_word k d =
      let x = d.last in
      let hs = heads d.before in
      let h = HEADS_AT + length (program s) in
      let p : part h (length (heads body)) m ≡ heads body = subst (λ (l : List ℕ). part h (length (heads body)) l ≡ heads body) a.stands (lying m ordered body fitted a.storable.fair).heads-at in
      let q : heads body ≡ hs ++ (head_word x ∷ []) = ap heads d.split ∙ flat_append (λ z. head_word z ∷ []) d.before (x ∷ []) in
      let n : length body ≡ length d.before + 1 = ap length d.split ∙ length-append d.before (x ∷ []) in
      let i : HEADS_AT + (statement_count m + e.statements) - 1 ≡ h + (length hs + 0) = omega (arith, held=, a.statements, length-laid-heads d.before) in
      ap (λ (j : ℕ). get_or m j 0) i
      ∙ sym (get_or-drop h m (length hs + 0) 0)
      ∙ sym (get_or-take (length (heads body)) (drop h m) (length hs + 0) 0 (omega (arith, length-laid-heads body, length-laid-heads d.before)))
      ∙ ap (λ (l : List ℕ). get_or l (length hs + 0) 0) (p ∙ q)
      ∙ get_or-append-add hs (head_word x ∷ []) 0 0

  short-last : (k : Kind) (d : Listing k body) → upper (head_word d.last) ≤ 3
  short-last k d =
      let x = d.last in
      let v = ap (λ (l : List Statement). length (flat values_of l)) d.split ∙ length_last values_of d.before x in
      (operators-laid (x ∷ []) (each-short (x ∷ []) (omega (arith, fitted.values, v, ap length (flat-one values_of x))))).0

  -- a pen that can be found, and that can write
  head-held : (r : Reader) → Bears r body → places r ≤ get_or m (HEADS_AT + (statement_count m + e.statements) - 1) 0
  head-held R.Text d = omega arith
  head-held R.Data d = omega arith
  head-held (R.List K.Empty) d = rw (last_word K.Empty d, d.fills) (omega arith)
  head-held (R.List K.Numbers) d = omega arith
  head-held (R.List K.Strings) d = omega arith

  pub penned : (r : Reader) → Bears r body → Penned m e r
  penned r d = record {
    words = ordered.sizes.words;
    statements = omega (arith, fitted.statements, held=, a.statements);
    values = omega (arith, fitted.values, given=, a.values);
    bytes = omega (arith, fitted.bytes, spelled=, a.bytes);
    some = omega (arith, places-held r body d, a.values);
    head = head-held r d;
  }

  head-tagged : (r : Reader) → Bears r body → upper (pen_at m e r).head ≤ 3
  head-tagged R.Text d = omega arith
  head-tagged R.Data d = omega arith
  head-tagged (R.List k) d = omega (arith, last_word k d, short-last k d)

  pub roomy : (r : Reader) (line : List ℕ) → Bears r body → length line ≤ LONGEST_LINE → Roomy (pen_at m e r) line
  roomy r line d l =
      let p = penned r d in
      record {
        ready = record {
          some = omega arith;
          head = head-tagged r d;
          storable = record { values = omega (arith, p.values); bytes = p.bytes; long = omega arith };
        };
        apart = omega (arith, p.statements);
        names = omega (arith, p.statements);
      }

  -- ---- what a line adds, laid

  behind-pen : Behind s body (pen_at m e R.Data)
  behind-pen = record {
    heads = omega (arith, held=, a.statements);
    names = omega (arith, held=, a.statements);
    values = omega (arith, given=, a.values);
    bytes = omega (arith, spelled=, a.bytes);
  }

  -- a statement opened, with some values
  opened-line : (n : List ℕ) (o : Operator) (vs : List Value) (k : Kind) → Each (LegalValue Small) vs → Taking K.Empty vs k → Fitted s (body ++ statement_of n o vs ∷ [])
      → (written_on (opened n o ∷ map value vs) (page m (pen_at m e R.Data))).memory ≡ laid_behind s (body ++ statement_of n o vs ∷ []) m
  opened-line n o vs k l t F =
      opened-laid s m ordered.sizes.words still body n o vs (pen_at m e R.Data) a.stands behind-pen (room_of s (body ++ statement_of n o vs ∷ []) F) (bytes-fair body a.storable.fair) l
      (all-kept vs k t).0

  -- a list that goes on
  module _ (k : Kind) (d : Listing k body) where
    abbrev x : Statement
    x = d.last

    within-pen : Within s d.before x (kept_words k x.values) (pen_at m e (R.List k))
    within-pen =
        let n = ap length d.split ∙ length-append d.before (x ∷ []) in
        let v = ap (λ (l : List Statement). length (flat values_of l)) d.split ∙ length_last values_of d.before x in
        let b = ap (λ (l : List Statement). length (flat bytes_of l)) d.split ∙ length_last bytes_of d.before x in
        record {
          heads = omega (arith, held=, a.statements, n);
          names = omega (arith, held=, a.statements, n);
          values = omega (arith, given=, a.values, v, kept-count k x.values d.fills);
          bytes = omega (arith, spelled=, a.bytes, b);
        }

    given-line : (q : Reader) (v : Value) (vs : List Value) → Each (LegalValue Small) (v ∷ vs) → Led k (v ∷ vs) q → fitting s (on_last (of_kind k (v ∷ vs)) body) ≡ true
        → (written_on (map value (v ∷ vs)) (page m (pen_at m e (R.List k)))).memory ≡ laid_behind s (on_last (of_kind k (v ∷ vs)) body) m
    given-line q v vs l t f =
        let y = having x.name x.operator (of_kind k (v ∷ vs) x.values) in
        let p : on_last (of_kind k (v ∷ vs)) body ≡ d.before ++ y ∷ [] = ap (on_last (of_kind k (v ∷ vs))) d.split ∙ last_of (of_kind k (v ∷ vs)) d.before x in
        let g : Each Fair (d.before ++ x ∷ []) = subst (Each Fair) d.split a.storable.fair in
        let c = continues x.name x.operator k x.values v vs t.to d.fills t.taking in
        let h : head_word x - places_of k ≡ (pen_at m e (R.List k)).head = ap (λ (w : ℕ). w - places_of k) (sym (last_word k d)) in
        given-laid s m ordered.sizes.words still d.before x y (kept_words k x.values) v vs (pen_at m e (R.List k))
        (subst (λ (w : ℕ). Continues x y (kept_words k x.values) w (v ∷ vs)) h c) within-pen
        (room_of s (d.before ++ x ∷ []) (subst (Fitted s) d.split fitted)) (room_of s (d.before ++ y ∷ []) (subst (Fitted s) p (fitted_of s (on_last (of_kind k (v ∷ vs)) body) f)))
        (bytes-fair d.before (each_left Fair d.before (x ∷ []) g)) (bytes_one x (each_right Fair d.before (x ∷ []) g).0) l
        (ap (λ (z : List Statement). laid_behind s z m) (sym d.split) ∙ a.stands)
        ∙ ap (λ (z : List Statement). laid_behind s z m) (sym p)

  -- where values are given
  abbrev pub Lays : Sort
  Lays r q es = Bears r body → fitting s (extended r body es) ≡ true → 1 ≤ givings es
      → (written_on es (page m (pen_at m e r))).memory ≡ laid_behind s (extended r body es) m

  lays-opened : (n : List ℕ) (o : Operator) (q : Reader) (vs : List Value) → Each (LegalValue Small) vs → Led K.Empty vs q → Lays R.Data q (opened n o ∷ map value vs)
  lays-opened n o q [] l t d f h = absurd (omega arith)
  lays-opened n o q (number v ∷ vs) l t d f h =
      let p = extended-opened body n o (number v ∷ vs) in
      opened-line n o (number v ∷ vs) t.to l t.taking (fitted_of s (body ++ stating n o (number v ∷ vs) ∷ []) (rw p at f)) ∙ ap (λ (z : List Statement). laid_behind s z m) (sym p)
  lays-opened n o q (string v ∷ vs) l t d f h =
      let p = extended-opened body n o (string v ∷ vs) in
      opened-line n o (string v ∷ vs) t.to l t.taking (fitted_of s (body ++ stating n o (string v ∷ vs) ∷ []) (rw p at f)) ∙ ap (λ (z : List Statement). laid_behind s z m) (sym p)

  lays-given : (k : Kind) (q : Reader) (vs : List Value) → Each (LegalValue Small) vs → Led k vs q → Lays (R.List k) q (map value vs)
  lays-given k q [] l t d f h = absurd (omega arith)
  lays-given k q (v ∷ vs) l t d f h =
      let p = extended-given body k (v ∷ vs) in
      given-line k d q v vs l t (rw p at f) ∙ ap (λ (z : List Statement). laid_behind s z m) (sym p)

  pub lays-line : Holds Lays
  lays-line = record {
    quiet = λ r q f g d h i. absurd (omega arith);
    opens = λ n o q vs l v t. lays-opened n o q vs v t;
    gives = λ k q vs v t. lays-given k q vs v t;
  }

  -- where a list is opened without a value
  pub record Places (r : Reader) (es : List Event) : Type 0 where
    pub stretches : Stretches (written_on es (page m (pen_at m e r))).pen
    pub tells : Tells (written_on es (page m (pen_at m e r))).pen 1
    pub lays : (place_on (written_on es (page m (pen_at m e r)))).memory ≡ laid_behind s (extended r body es) m

  abbrev pub Placing : Sort
  Placing r q es = Bears r body → fitting s (extended r body es) ≡ true → 1 ≤ openings es + givings es → givings es ≡ 0 → Places r es

  places-opened : (n : List ℕ) (o : Operator) → fitting s (extended R.Data body (opened n o ∷ [])) ≡ true → Places R.Data (opened n o ∷ [])
  unfolding written_on opened_on
  places-opened n o f =
      let p = extended-opened body n o [] in
      let pen = penned R.Data tt in
      let z : stating n o [] ≡ statement_of n o (number ZERO ∷ []) = ap (λ (b : ℕ). record { name = n; operator = o; values = numbers (b ∷ []) }) (sym zero_bits) in
      let F = fitted_of s (body ++ stating n o [] ∷ []) (rw p at f) in
      record {
        stretches = record { values = omega (arith, pen.values); bytes = omega (arith, pen.bytes) };
        tells = record { some = omega arith; head = bare-tag o; few = omega arith };
        lays =
            opened-line n o (number ZERO ∷ []) K.Numbers (rw zero_bits refl, tt) (refl, refl) (subst (λ (x : Statement). Fitted s (body ++ x ∷ [])) z F)
            ∙ ap (λ (x : Statement). laid_behind s (body ++ x ∷ []) m) (sym z)
            ∙ ap (λ (x : List Statement). laid_behind s x m) (sym p);
      }

  placing-opened : (n : List ℕ) (o : Operator) (q : Reader) (vs : List Value) → Placing R.Data q (opened n o ∷ map value vs)
  placing-opened n o q [] d f h g = places-opened n o f
  placing-opened n o q (v ∷ vs) d f h g = absurd (omega (arith, givings-values vs))

  pub placing-line : Holds Placing
  placing-line = record {
    quiet = λ r q f g d h i j. absurd (omega arith);
    opens = λ n o q vs l v t. placing-opened n o q vs;
    gives = λ k q vs v t d f h g. absurd (omega (arith, openings-values vs));
  }
