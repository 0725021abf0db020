-- What a search for a string answers is what is there to be found: by the place, by the values' kind, and by the room. Assumes nothing.
use Prim.Native.Nat.{ℕ, zero, suc, ◌+◌, ◌*◌, ◌-◌, ◌/◌, ◌≤◌, ◌<◌}
use mathlib.Core.Path.{◌≡◌, refl, sym, ap, ap₂, subst₂, ◌∙◌}
use mathlib.Core.Bool.{true, false}
use mathlib.Core.List.{List, []}
use native.Mathlib.Omega.{arith}
use borrow.Author.Tests.{eq-eqb, ne_eqb, le-leb, lt-leb}
use lib.Dec.{eqb}
use lib.ListN.{length, drop, get_or, length-drop}
use lib.Seq.{length-take-le}
use Rattle.std.specs.Prelude.{Result, Ok, Err}
use Rattle.plain.specs.Bytes.{within}
use Rattle.statement.specs.Statements.{how_many, Statement}
use Rattle.words.specs.Over.{over, part}
use Rattle.words.specs.Halves.{upper, lower}
use Rattle.plain.proofs.Tests.{is_false}
use Rattle.plain.proofs.Ranges.{within-inside, within-below, within-above}
use Rattle.layout.specs.State.{program}
use Rattle.octets.specs.Octets.{octets}
use Rattle.layout.specs.Limits.{BYTES_AT, BYTEWORDS}
use Rattle.layout.specs.Memory.{statement_count, value_count, byte_count, value_words, held_bytes, decode}
use Rattle.layout.proofs.Areas.{length-values, length-bytewords, length-bytes}
use Rattle.layout.proofs.Sound.{Sound}
use Rattle.layout.proofs.Holds.{length-program}
use Rattle.variables.specs.Variables.{Datum, string, each, variable, all_strings}
use Rattle.variables.specs.Walk.{string_count, Begins}
use Rattle.variables.specs.Found.{fitted, filled}
use Rattle.variables.specs.Spelled.{letters, string_of, spelled_in, Spells}
use Rattle.variables.specs.Places.{Stands, Spelt, byte_before, Placed, Copies}
use Rattle.variables.specs.declared.variable.FindError.{FindError}
use Rattle.variables.specs.declared.variable.FindError.TheVariants.{TooMany, Mixed, Absent}
use Rattle.variables.proofs.Counts.{count_most, all_strings-counted}
use Rattle.variables.proofs.Held.{head_at, offset_at, statement_at, values-within, count_at, program-next}
use Rattle.variables.proofs.Strings.{part-front, no_number, string-placed, string-at, number-there}

-- a variable of as many strings as values
pub begins-strings : {name m : List ℕ} {s value count strings : ℕ} → Begins name m s value count strings → count ≤ strings → all_strings (variable name (decode m)) ≡ true
begins-strings {name} {m} B h =
    let vs = variable name (decode m) in
    all_strings-counted vs ∙ eq-eqb (string_count vs) (length vs) (omega (arith, B.size, B.kinds, count_most vs))

-- ---- the value that was located

module _ {name m : List ℕ} {place s value index : ℕ} (S : Sound m) (T : Stands name m place s value index) where
  there : s < statement_count m
  there = omega (arith, ap length T.here, length-drop s (program (decode m)), length-program m S)

  stated= : T.stated ≡ statement_at m s
  stated= = ap (λ (l : List Statement). get_or l 0 T.stated) (sym T.here ∙ program-next m S s there)

  inside : index < lower (head_at m s)
  inside = omega (arith, T.inside, ap (λ (x : Statement). how_many x.values) stated=, count_at m S s there)

  pub stands-spelt : Spelt m s value index
  stands-spelt = record { held = there; offset = T.offset; inside = inside }

  value= : get_or (variable name (decode m)) place (string []) ≡ get_or (each (statement_at m s).values) index (string [])
  value= = T.same ∙ ap (λ (x : Statement). get_or (each x.values) index (string [])) stated=

  pub stands-few : value + index < value_count m
  stands-few = omega (arith, T.offset, inside, values-within m S s there, length-values m S.sizes)

  -- it is a string, whose bytes begin at b
  module _ (a : all_strings (variable name (decode m)) ≡ true) (b : ℕ) (q : b ≡ byte_before m s value index) where
    kind : eqb (upper (head_at m s) / 2) 0 ≡ false
    kind =
        is_false (eqb (upper (head_at m s) / 2) 0)
        (λ t. no_number (variable name (decode m)) place _ a (value= ∙ number-there m S s there index inside t))

    begin : b ≡ byte_before m s (offset_at m s) index
    begin = q ∙ ap (λ (o : ℕ). byte_before m s o index) T.offset

    pub stands-placed : Placed m (value + index) b
    stands-placed = subst₂ (λ (o k : ℕ). Placed m (o + index) k) (sym T.offset) (sym begin) (string-placed m S s there index inside kind)

    pub stands-string : get_or (variable name (decode m)) place (string []) ≡ string (part b (get_or (value_words m) (value + index) 0) (held_bytes m))
    stands-string =
        value=
        ∙ string-at m S s there index inside kind
        ∙ ap₂ (λ (o k : ℕ). string (part k (get_or (value_words m) (o + index) 0) (held_bytes m))) (sym T.offset) (sym begin)

    pub stands-length : length (part b (get_or (value_words m) (value + index) 0) (held_bytes m)) ≡ get_or (value_words m) (value + index) 0
    stands-length =
        length-take-le (get_or (value_words m) (value + index) 0) (drop b (held_bytes m))
        (omega (arith, length-drop b (held_bytes m), length-bytes m S.sizes, stands-placed.fits))

-- ---- its bytes copied

module _ (m : List ℕ) {values : List ℕ} (v : values ≡ value_words m) (value byte : ℕ) (before : List ℕ) where
  abbrev long : ℕ
  long = get_or values value 0

  long= : long ≡ get_or (value_words m) value 0
  long= = ap (λ (l : List ℕ). get_or l value 0) v

  copies : (r : Result ℕ FindError) (after : List ℕ) → r ≡ fitted long (length before) → after ≡ filled r (part byte long (held_bytes m)) before → Copies m value byte before r after
  copies r after f b = record {
    found = f ∙ ap (λ (n : ℕ). fitted n (length before)) long=;
    buffer = b ∙ ap (λ (n : ℕ). filled r (part byte n (held_bytes m)) before) long=;
  }

  pub copies-none : length before < long → Copies m value byte before (Err TooMany) before
  copies-none h = copies (Err TooMany) before (rw (lt-leb long (length before) h)) refl

  module _ (S : Sound m) (P : Placed m value byte) {area : List ℕ} (a : area ≡ part BYTES_AT BYTEWORDS m) where
    pub copied-fits : byte + long ≤ 8 * length area
    copied-fits = omega (arith, long=, P.fits, S.sizes.bytes, ap length a, length-bytewords m S.sizes)

    -- the bytes in use are the first of the area's
    held= : part byte long (octets area) ≡ part byte long (held_bytes m)
    held= =
        ap (λ (l : List ℕ). part byte long (octets l)) a
        ∙ sym (part-front byte long (byte_count m) (octets (part BYTES_AT BYTEWORDS m)) (omega (arith, long=, P.fits)))

    pub copies-bytes : long ≤ length before → (after : List ℕ) → after ≡ over 0 (part byte long (octets area)) before → Copies m value byte before (Ok long) after
    copies-bytes h after f = copies (Ok long) after (rw (le-leb long (length before) h)) (f ∙ ap (λ (l : List ℕ). over 0 l before) held=)

-- ---- the answers

module _ (name m : List ℕ) (place : ℕ) (before : List ℕ) where
  abbrev values : List Datum
  values = variable name (decode m)

  spells : (r : Result ℕ FindError) (after : List ℕ) → spelled_in name place (length before) (decode m) ≡ r → after ≡ filled r (string_of place values) before → Spells name place m before r after
  spells r after e f = record { found = sym e; buffer = f ∙ ap (λ (x : Result ℕ FindError). filled x (string_of place values) before) (sym e) }

  spells-none : within 1 (length values) place ≡ false → Spells name place m before (Err Absent) before
  unfolding spelled_in
  spells-none e = spells (Err Absent) before (rw e) refl

  -- no place is in no values
  nowhere : (p : ℕ) → within 1 0 p ≡ false
  nowhere zero = refl
  nowhere (suc p) = within-above 1 0 (suc p) (omega arith)

  pub spells-absent : values ≡ [] → Spells name place m before (Err Absent) before
  spells-absent e = spells-none (ap (λ (l : List Datum). within 1 (length l) place) e ∙ nowhere place)

  pub spells-zero : place ≡ 0 → Spells name place m before (Err Absent) before
  spells-zero e = spells-none (within-below 1 (length values) place (omega arith))

  pub spells-past : length values < place → Spells name place m before (Err Absent) before
  spells-past h = spells-none (within-above 1 (length values) place h)

  module _ (some : 0 < place) (most : place ≤ length values) where
    inside-values : within 1 (length values) place ≡ true
    inside-values = within-inside 1 (length values) place (omega arith) most

    pub spells-mixed : string_count values < length values → Spells name place m before (Err Mixed) before
    unfolding spelled_in
    spells-mixed h =
        let n : all_strings values ≡ false = all_strings-counted values ∙ ne_eqb (string_count values) (length values) (λ z. omega arith) in
        spells (Err Mixed) before (rw (inside-values, n)) refl

    pub spells-string : {s value index : ℕ} → Sound m → Stands name m (place - 1) s value index → all_strings values ≡ true → (b : ℕ) → b ≡ byte_before m s value index
        → (r : Result ℕ FindError) (after : List ℕ) → Copies m (value + index) b before r after → Spells name place m before r after
    unfolding spelled_in
    spells-string S T a b q r after C =
        let o = ap letters (stands-string S T a b q) in
        spells r after
        (rw (inside-values, a) (ap (λ (n : ℕ). fitted n (length before)) (ap length o ∙ stands-length S T a b q) ∙ sym C.found))
        (C.buffer ∙ ap (λ (x : List ℕ). filled r x before) (sym o))
