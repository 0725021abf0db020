-- The strings of an undamaged memory: a string's bytes stand after those of the statements before its own, and of its own statement's
-- strings before it. Assumes nothing.
use Prim.Native.Nat.{ℕ, zero, suc, ◌+◌, ◌*◌, ◌/◌, ◌≤◌, ◌<◌}
use mathlib.Core.Path.{◌≡◌, refl, sym, ap, ap₂, ◌∙◌}
use mathlib.Core.Bool.{true, false}
use mathlib.Core.List.{List, [], ◌∷◌, map}
use native.Mathlib.Nat.{not-suc-le-zero, le_of_suc-le-suc}
use native.Mathlib.Omega.{arith}
use borrow.Author.Tests.{leb-true}
use lib.Dec.{eqb, leb}
use lib.ListN.{length, take, drop, get_or, length-take}
use lib.Seq.{drop-drop, take-take, get_or-take, get_or-drop, length-take-le}
use Rattle.value.specs.Strings.{STRING}
use Rattle.words.specs.Over.{part}
use Rattle.words.specs.Halves.{HALF, upper, lower, sum}
use Rattle.plain.proofs.Tests.{true-false}
use Rattle.plain.proofs.Each.{Each, each_at}
use Rattle.words.proofs.Halves.{sum-take-next, sum-parts}
use Rattle.words.proofs.Steps.{drop-next}
use Rattle.layout.specs.Memory.{statement_count, value_count, head_words, value_words, held_bytes, cut_strings, bytes_taken}
use Rattle.layout.specs.Limits.{VALUES, BYTES}
use Rattle.layout.specs.Damage.{Counted, total_bytes}
use Rattle.layout.proofs.Areas.{length-heads, length-values}
use Rattle.layout.proofs.Sound.{Sound}
use Rattle.variables.specs.Variables.{Datum, number, string, each, all_strings}
use Rattle.variables.specs.Places.{Spelt, byte_before, Placed}
use Rattle.variables.proofs.Held.{head_at, offset_at, values_at, bytes_from, statement_at, values-within, length-values_at, fits-at}

-- a part of the first elements
pub part-front : (o n c : ℕ) (xs : List ℕ) → o + n ≤ c → part o n (take c xs) ≡ part o n xs
part-front zero n c xs h = take-take n c xs (omega arith)
part-front (suc o) n zero xs h = absurd (omega arith)
part-front (suc o) n (suc c) [] h = refl
part-front (suc o) n (suc c) (x ∷ xs) h = part-front o n c xs (omega arith)

-- ---- bytes summed

sum-most : (ws : List ℕ) → sum ws ≤ HALF * length ws
unfolding sum
sum-most [] = omega arith
sum-most (w ∷ ws) = omega (arith, sum-most ws)

-- the bytes of the statements before place k, and of those from there on
bytes-parts : (k : ℕ) (hs vs : List ℕ) → total_bytes (take k hs) vs + total_bytes (drop k hs) (drop (sum (take k hs)) vs) ≡ total_bytes hs vs
unfolding total_bytes sum
bytes-parts zero hs vs = omega arith
bytes-parts (suc k) [] vs = refl
bytes-parts (suc k) (h ∷ hs) vs =
    omega (arith, bytes-parts k hs (drop (lower h) vs), ap (total_bytes (drop k hs)) (drop-drop (sum (take k hs)) (lower h) vs))

-- those before place k, and of the statement there
bytes_next : (k : ℕ) (hs vs : List ℕ) → k < length hs
    → total_bytes (take k hs) vs + bytes_taken (upper (get_or hs k 0) / 2) (part (sum (take k hs)) (lower (get_or hs k 0)) vs) ≤ total_bytes hs vs
unfolding total_bytes
bytes_next k hs vs h =
    omega (arith, bytes-parts k hs vs, ap (λ (l : List ℕ). total_bytes l (drop (sum (take k hs)) vs)) (drop-next hs k 0 h))

-- ---- strings cut out by their lengths

abbrev Short : List ℕ → Type 0
Short ws = Each (λ w. leb w STRING ≡ true) ws

sum_inside : (i : ℕ) (ws : List ℕ) → i < length ws → Short ws → sum (take i ws) + get_or ws i 0 ≤ sum ws
sum_inside i ws h f =
    let s : get_or ws i 0 ≤ STRING = leb-true (get_or ws i 0) STRING (each_at (λ w. leb w STRING ≡ true) ws i 0 h f) in
    omega (arith, sum-take-next i ws h, sum-parts (i + 1) ws)

string-cut : (i : ℕ) (ws bs : List ℕ) → i < length ws → Short ws
    → get_or (map string (cut_strings ws bs)) i (string []) ≡ string (part (sum (take i ws)) (get_or ws i 0) bs)
unfolding cut_strings sum
string-cut i [] bs h f = absurd (not-suc-le-zero h)
string-cut zero (w ∷ ws) bs h f = refl
string-cut (suc i) (w ∷ ws) bs h f =
    let s : w ≤ STRING = leb-true w STRING f.0 in
    let l : w + sum (take i ws) ≡ lower w + sum (take i ws) = omega arith in
    string-cut i ws (drop w bs) (le_of_suc-le-suc h) f.1
    ∙ ap (λ (r : List ℕ). string (take (get_or ws i 0) r)) (drop-drop (sum (take i ws)) w bs ∙ ap (λ (j : ℕ). drop j bs) l)

number_at : (ws : List ℕ) (i : ℕ) → i < length ws → get_or (map number ws) i (string []) ≡ number (get_or ws i 0)
number_at [] i h = absurd (not-suc-le-zero h)
number_at (w ∷ ws) zero h = refl
number_at (w ∷ ws) (suc i) h = number_at ws i (le_of_suc-le-suc h)

-- ---- no number is among strings

apart : {X : Type 0} (s : List ℕ) (w : ℕ) → string s ≡ number w → X
apart s w e = absurd (let z : ◌≡◌ {A = ℕ} 0 1 = cc in omega arith)

pub no_number : {X : Type 0} (vs : List Datum) (i w : ℕ) → all_strings vs ≡ true → get_or vs i (string []) ≡ number w → X
unfolding all_strings
no_number [] i w e q = apart [] w q
no_number (number x ∷ vs) i w e q = true-false (sym e)
no_number (string s ∷ vs) zero w e q = apart s w q
no_number (string s ∷ vs) (suc i) w e q = no_number vs i w e q

-- ---- the value i of the statement at place k of a memory

module _ (m : List ℕ) (S : Sound m) (k : ℕ) (h : k < statement_count m) (i : ℕ) (j : i < lower (head_at m k)) where
  abbrev kind : ℕ
  kind = upper (head_at m k) / 2

  abbrev ws : List ℕ
  ws = values_at m k

  abbrev word : ℕ
  word = get_or (value_words m) (offset_at m k + i) 0

  abbrev byte : ℕ
  byte = byte_before m k (offset_at m k) i

  inside : i < length ws
  inside = omega (arith, length-values_at m S k h)

  word= : get_or ws i 0 ≡ word
  word= = get_or-take (lower (head_at m k)) (drop (offset_at m k) (value_words m)) i 0 j ∙ get_or-drop (offset_at m k) (value_words m) i 0

  before= : take i ws ≡ part (offset_at m k) i (value_words m)
  before= = take-take i (lower (head_at m k)) (drop (offset_at m k) (value_words m)) (omega arith)

  -- of a statement of strings, it is the string of these bytes
  module _ (t : eqb kind 0 ≡ false) where
    short : Short ws
    short = rw t at (fits-at m S k h)

    pub string-placed : Placed m (offset_at m k + i) byte
    string-placed = record {
      held = omega (arith, values-within m S k h, length-values m S.sizes);
      fits =
          let e : bytes_taken kind ws ≡ sum ws = rw t in
          omega (arith, ap sum before=, word=, sum_inside i ws inside short, e, bytes_next k (head_words m) (value_words m) (omega (arith, length-heads m S.sizes)), S.bytes=);
    }

    pub string-at : get_or (each (statement_at m k).values) i (string []) ≡ string (part byte word (held_bytes m))
    string-at =
        let B = total_bytes (take k (head_words m)) (value_words m) in
        let e : each (statement_at m k).values ≡ map string (cut_strings ws (bytes_from m k)) = rw t in
        ap (λ (l : List Datum). get_or l i (string [])) e
        ∙ string-cut i ws (bytes_from m k) inside short
        ∙ ap₂ (λ (a b : ℕ). string (part a b (bytes_from m k))) (ap sum before=) word=
        ∙ ap (λ (l : List ℕ). string (take word l)) (drop-drop (sum (part (offset_at m k) i (value_words m))) B (held_bytes m))

  -- of a statement of numbers, it is no string
  pub number-there : eqb kind 0 ≡ true → get_or (each (statement_at m k).values) i (string []) ≡ number (get_or ws i 0)
  number-there t =
      let e : each (statement_at m k).values ≡ map number ws = rw t in
      ap (λ (l : List Datum). get_or l i (string [])) e ∙ number_at ws i inside

-- ---- what is read for the place of a string's first byte

module _ {m heads values : List ℕ} (S : Sound m) (e : heads ≡ head_words m) (v : values ≡ value_words m) {s value index : ℕ} (P : Spelt m s value index) where
  length-headed : length heads ≡ statement_count m
  length-headed = ap length e ∙ length-heads m S.sizes

  length-valued : length values ≡ value_count m
  length-valued = ap length v ∙ length-values m S.sizes

  pub statements-before : s ≡ length (take s heads)
  statements-before = sym (length-take-le s heads (omega (arith, P.held, length-headed)))

  ends : value + lower (head_at m s) ≤ length values
  ends = omega (arith, P.offset, values-within m S s P.held, ap length v)

  pub values-before : value + index ≤ length values
  values-before = omega (arith, P.inside, ends)

  pub counted-before : Counted (take s heads) values
  counted-before = record {
    within = omega (arith, ap (λ (l : List ℕ). sum (take s l)) e, P.offset, ends);
    few = omega (arith, length-valued, S.sizes.values);
  }

  pub length_before : length (part value index values) ≤ VALUES
  length_before = omega (arith, length-take index (drop value values), values-before, length-valued, S.sizes.values)

  pub byte-before : total_bytes (take s heads) values + sum (part value index values) ≡ byte_before m s value index
  byte-before = ap₂ (λ (x y : List ℕ). total_bytes (take s x) y + sum (part value index y)) e v

  pub byte-few : total_bytes (take s heads) values + sum (part value index values) ≤ BYTES + HALF * VALUES
  byte-few =
      omega (
        arith,
        ap₂ (λ (x y : List ℕ). total_bytes (take s x) y) e v,
        bytes-parts s (head_words m) (value_words m),
        S.bytes=,
        S.sizes.bytes,
        sum-most (part value index values),
        length_before,
      )
