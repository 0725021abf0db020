-- What is known of a value that is found at a place: a number is what the run of its bytes is read as, and a string has the bytes that its
-- quotes hold, 60 at most, and takes two more of the line. Assumes nothing.
use Prim.Native.Nat.{ℕ, ◌+◌, ◌≤◌, ◌<◌}
use native.Mathlib.Nat.{zero-add}
use native.Mathlib.Omega.{arith}
use mathlib.Core.Path.{◌≡◌, refl, sym, ap, ◌∙◌}
use mathlib.Core.Bool.{Bool, true, false, ◌&&◌}
use mathlib.Core.List.{List, [], ◌∷◌}
use borrow.Author.Tests.{leb-true}
use lib.Dec.{leb, eqb}
use lib.Ieee.{Float}
use lib.ListN.{length, drop, length-drop}
use lib.Seq.{drop-drop}
use Rattle.plain.specs.Bytes.{QUOTE}
use Rattle.std.specs.Prelude.{Ok, Err, if◌then◌else◌}
use Rattle.plain.specs.Runs.{run, past}
use Rattle.plain.proofs.Tests.{both}
use Rattle.decimal.specs.Class.{reading}
use Rattle.decimal.specs.declared.Reading.{Reading}
use Rattle.decimal.specs.declared.Reading.TheVariants as D
use Rattle.decimal.proofs.Bounded.{reading-empty}
use Rattle.value.specs.Classes.{value_byte, stands}
use Rattle.value.specs.Faults.{faulty}
use Rattle.value.specs.Strings.{STRING, Scanned, closed, unclosed, preceding, scanned, contents, undoubled, followed, enclosed, closing, string_at}
use Rattle.value.specs.Value.{bytes_in, value_of, long_of, told, number_at, value_at}
use Rattle.value.specs.declared.Word.{Word}
use Rattle.value.specs.declared.faults.Fault.TheVariants as F
use Rattle.value.specs.declared.Word.TheVariants as W

-- ---- a string

-- its bytes are fewer than it takes, and it takes no more than there are
abbrev Inside : ℕ → Scanned → Type 0
Inside n unclosed = Unit
Inside n (closed bs k) = (length bs < k) × (k ≤ n)

inside-preceding : (n b k : ℕ) (s : Scanned) → 1 ≤ k → Inside n s → Inside (k + n) (preceding b k s)
inside-preceding n b k unclosed h i = tt
inside-preceding n b k (closed bs m) h i = (omega arith, omega arith)

inside : (bs : List ℕ) → Inside (length bs) (scanned bs)
unfolding scanned
inside [] = tt
inside (b ∷ []) = by (eqb b QUOTE)
  where
    by : (t : Bool) → Inside 1 (if t then closed [] 1 else unclosed)
    by true = (omega arith, omega arith)
    by false = tt
inside (b ∷ c ∷ bs) = by (eqb b QUOTE) (eqb c QUOTE) (inside bs) (inside (c ∷ bs))
  where
    n : ℕ
    n = length bs

    by : (t u : Bool) → Inside n (scanned bs) → Inside (length (c ∷ bs)) (scanned (c ∷ bs))
        → Inside (length (b ∷ c ∷ bs)) (if t then (if u then preceding QUOTE 2 (scanned bs) else closed [] 1) else preceding b 1 (scanned (c ∷ bs)))
    by true true h g = let z : 2 + n ≡ length (b ∷ c ∷ bs) = omega arith in rw z at (inside-preceding n QUOTE 2 (scanned bs) (omega arith) h)
    by true false h g = (omega arith, omega arith)
    by false u h g =
        let z : 1 + length (c ∷ bs) ≡ length (b ∷ c ∷ bs) = omega arith in
        rw z at (inside-preceding (length (c ∷ bs)) b 1 (scanned (c ∷ bs)) (omega arith) g)

undoubled-tail : (bs : List ℕ) → undoubled bs ≡ contents (scanned (drop 1 bs))
unfolding scanned
undoubled-tail [] = refl
undoubled-tail (b ∷ bs) = refl

-- the bytes of the string that opens at a place
pub undoubled-at : (line : List ℕ) (i : ℕ) → undoubled (drop i line) ≡ contents (scanned (drop (i + 1) line))
undoubled-at line i = undoubled-tail (drop i line) ∙ ap (λ (l : List ℕ). contents (scanned l)) (drop-drop 1 i line)

-- a string that opens at s, has n bytes, and before k
pub record StringRead (line : List ℕ) (s n k : ℕ) : Type 0 where
  pub bytes : length (undoubled (drop s line)) ≡ n
  pub short : n ≤ STRING
  pub takes : s + n + 2 ≤ k
  pub stays : k ≤ length line

from-fitting : (t : Bool) (i a b s n k : ℕ) → (if t then Ok (W.String i a b) else Err (faulty F.BadValue i)) ≡ Ok (W.String s n k) → (t ≡ true) × (i ≡ s) × (a ≡ n) × (b ≡ k)
from-fitting true i a b s n k e = (refl, cc, cc, cc)
from-fitting false i a b s n k e = let z : ◌≡◌ {A = ℕ} 0 1 = cc in absurd (omega arith)

module _ (line : List ℕ) (i s n k : ℕ) where
  string-read : string_at line i ≡ Ok (W.String s n k) → (s ≡ i) × StringRead line s n k
  unfolding string_at
  string-read e = by (scanned (drop (i + 1) line)) refl (inside (drop (i + 1) line)) e
    where
      by : (w : Scanned) → scanned (drop (i + 1) line) ≡ w → Inside (length (drop (i + 1) line)) w → enclosed line i (closing 0 (i + 1) w) ≡ Ok (W.String s n k)
          → (s ≡ i) × StringRead line s n k
      by unclosed q h e = let z : ◌≡◌ {A = ℕ} 0 1 = cc in absurd (omega arith)
      by (closed bs m) q h e =
          let f = from-fitting (leb (0 + length bs) STRING && followed line (i + 1 + m)) i (0 + length bs) (i + 1 + m) s n k e in
          let g = both (leb (0 + length bs) STRING) (followed line (i + 1 + m)) f.0 in
          let o : s ≡ i = sym f.1 in
          let y : length (undoubled (drop s line)) ≡ length bs = rw (o, undoubled-at line i, q) in (
            o,
            record {
              bytes = y ∙ sym (zero-add (length bs)) ∙ f.2;
              short = omega (arith, leb-true (0 + length bs) STRING g.0, f.2);
              takes = omega (arith, f.2, f.3);
              stays = omega (arith, f.3, length-drop (i + 1) line);
            },
          )

  no_number : (x : Float) → string_at line i ≡ Ok (W.Number x k) → ⊥
  unfolding string_at
  no_number x e = by (scanned (drop (i + 1) line)) e
    where
      of : (t : Bool) (a b : ℕ) → (if t then Ok (W.String i a b) else Err (faulty F.BadValue i)) ≡ Ok (W.Number x k) → ⊥
      of true a b e = let z : ◌≡◌ {A = ℕ} 0 1 = cc in omega arith
      of false a b e = let z : ◌≡◌ {A = ℕ} 0 1 = cc in omega arith

      by : (w : Scanned) → enclosed line i (closing 0 (i + 1) w) ≡ Ok (W.Number x k) → ⊥
      by unclosed e = let z : ◌≡◌ {A = ℕ} 0 1 = cc in omega arith
      by (closed bs m) e = of (leb (0 + length bs) STRING && followed line (i + 1 + m)) (0 + length bs) (i + 1 + m) e

-- ---- a number

-- a number that starts at i, and before k
pub record NumberRead (line : List ℕ) (i : ℕ) (x : Float) (k : ℕ) : Type 0 where
  pub read : reading (run value_byte (drop i line)) ≡ D.Number x
  pub ends : past value_byte line i ≡ k

from_told : (v : Reading) (i e k : ℕ) (x : Float) → told v i e ≡ Ok (W.Number x k) → (v ≡ D.Number x) × (e ≡ k)
from_told (D.Number y) i e k x q = (cc, cc)
from_told (D.BadForm r) i e k x q = let z : ◌≡◌ {A = ℕ} 0 1 = cc in absurd (omega arith)
from_told (D.OutsideClass r) i e k x q = let z : ◌≡◌ {A = ℕ} 0 1 = cc in absurd (omega arith)

number_read : (line : List ℕ) (i k : ℕ) (x : Float) → number_at line i ≡ Ok (W.Number x k) → NumberRead line i x k
unfolding number_at
number_read line i k x q =
    let f = from_told (reading (run value_byte (drop i line))) i (past value_byte line i) k x q in
    record { read = f.0; ends = f.1 }

some_bytes : (bs : List ℕ) (x : Float) → reading bs ≡ D.Number x → 0 < length bs
some_bytes [] x e = let z : ◌≡◌ {A = ℕ} 0 1 = cc reading-empty in absurd (omega arith)
some_bytes (b ∷ bs) x e = omega arith

-- it takes a byte at least
pub number-takes : (line : List ℕ) (i : ℕ) (x : Float) (k : ℕ) → NumberRead line i x k → i < k
unfolding past
number-takes line i x k r = omega (arith, some_bytes (run value_byte (drop i line)) x r.read, r.ends)

no-string : (line : List ℕ) (i s n k : ℕ) → number_at line i ≡ Ok (W.String s n k) → ⊥
unfolding number_at
no-string line i s n k e = by (reading (run value_byte (drop i line))) e
  where
    by : (v : Reading) → told v i (past value_byte line i) ≡ Ok (W.String s n k) → ⊥
    by (D.Number y) e = let z : ◌≡◌ {A = ℕ} 0 1 = cc in omega arith
    by (D.BadForm r) e = let z : ◌≡◌ {A = ℕ} 0 1 = cc in omega arith
    by (D.OutsideClass r) e = let z : ◌≡◌ {A = ℕ} 0 1 = cc in omega arith

-- ---- a value

module _ (line : List ℕ) (i : ℕ) where
  pub value-number : (x : Float) (k : ℕ) → value_at line i ≡ Ok (W.Number x k) → (stands QUOTE line i ≡ false) × NumberRead line i x k
  unfolding value_at
  value-number x k e = by (stands QUOTE line i) e
    where
      by : (t : Bool) → (if t then string_at line i else number_at line i) ≡ Ok (W.Number x k) → (t ≡ false) × NumberRead line i x k
      by true e = absurd (no_number line i 0 0 k x e)
      by false e = (refl, number_read line i k x e)

  pub value-string : (s n k : ℕ) → value_at line i ≡ Ok (W.String s n k) → (stands QUOTE line i ≡ true) × (s ≡ i) × StringRead line s n k
  unfolding value_at
  value-string s n k e = by (stands QUOTE line i) e
    where
      by : (t : Bool) → (if t then string_at line i else number_at line i) ≡ Ok (W.String s n k) → (t ≡ true) × (s ≡ i) × StringRead line s n k
      by true e = let r = string-read line i s n k e in (refl, r.0, r.1)
      by false e = absurd (no-string line i s n k e)

-- how many bytes a value has
pub value-long : (line : List ℕ) (i : ℕ) (w : Word) → value_at line i ≡ Ok w → bytes_in (value_of line w) ≡ long_of w
value-long line i (W.Number x k) e = refl
value-long line i (W.String s n k) e = (value-string line i s n k e).2.bytes
