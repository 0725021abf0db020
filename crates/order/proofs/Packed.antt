-- Names compare as the words that hold them do: the bytes stand from the most significant down, and zeros stand before every byte
-- of a name. Assumes nothing.
use mathlib.Core.Path.{◌≡◌, refl, sym, ap, ap₂, ◌∙◌}
use mathlib.Core.Bool.{Bool, true, false, not, ◌&&◌, ◌||◌}
use mathlib.Core.List.{List, [], ◌∷◌, ◌++◌}
use Prim.Native.Nat.{ℕ, ◌*◌, ◌/◌, ◌%◌, ◌≤◌, ◌<◌}
use native.Mathlib.Omega.{arith}
use borrow.Author.Tests.{ltb-true, ltb-false, eqb-true, eqb-false, lt-ltb, le-ltb, eq-eqb, ne_eqb}
use lib.Dec.{eqb, ltb, leb}
use lib.ListN.{length, length-append}
use Rattle.std.specs.Prelude.{if◌then◌else◌}
use Rattle.plain.specs.Lists.{equal}
use Rattle.plain.specs.Runs.{run, skip}
use Rattle.plain.proofs.Tests.{both, first_then, true-false}
use Rattle.value.specs.Classes.{name_byte}
use Rattle.words.specs.Halves.{all}
use Rattle.words.proofs.Each.{WORD, Words}
use Rattle.octets.specs.Octets.{bytes_of, octets}
use Rattle.names.specs.Names.{unpacked, holds_name}
use Rattle.order.specs.Order.{before}

-- two numbers decide, or what follows them where they are the same
abbrev pub first : (x y : ℕ) → Bool → Bool
first x y t = ltb x y || (eqb x y && t)

pub first-less : (x y : ℕ) (t : Bool) → x < y → first x y t ≡ true
first-less x y t h = rw (lt-ltb x y h)

pub first-same : (x y : ℕ) (t : Bool) → x ≡ y → first x y t ≡ t
first-same x y t h = rw (le-ltb x y (omega arith), eq-eqb x y h)

pub first_more : (x y : ℕ) (t : Bool) → y < x → first x y t ≡ false
first_more x y t h = rw (le-ltb x y (omega arith), ne_eqb x y (λ e. omega arith))

-- ---- a word is compared by its highest part and its lowest byte

module _ (x y : ℕ) (t : Bool) where
  first_byte : first x y t ≡ first (x / 256) (y / 256) (first (x % 256) (y % 256) t)
  first_byte = by (ltb (x / 256) (y / 256)) (eqb (x / 256) (y / 256)) (ltb (x % 256) (y % 256)) (eqb (x % 256) (y % 256)) refl refl refl refl
    where
      by : (a b c d : Bool) → ltb (x / 256) (y / 256) ≡ a → eqb (x / 256) (y / 256) ≡ b → ltb (x % 256) (y % 256) ≡ c → eqb (x % 256) (y % 256) ≡ d
          → first x y t ≡ a || (b && (c || (d && t)))
      by true b c d e f g h = first-less x y t (omega (arith, ltb-true (x / 256) (y / 256) e))
      by false true true d e f g h = first-less x y t (omega (arith, eqb-true (x / 256) (y / 256) f, ltb-true (x % 256) (y % 256) g))
      by false true false true e f g h = first-same x y t (omega (arith, eqb-true (x / 256) (y / 256) f, eqb-true (x % 256) (y % 256) h))
      by false true false false e f g h =
          let n : x % 256 ≡ y % 256 → ⊥ = eqb-false (x % 256) (y % 256) h in
          let m : y % 256 ≤ x % 256 = ltb-false (x % 256) (y % 256) g in
          let s : y % 256 < x % 256 = omega arith in
          let k : x / 256 ≡ y / 256 = eqb-true (x / 256) (y / 256) f in
          first_more x y t (omega arith)
      by false false c d e f g h =
          let n : x / 256 ≡ y / 256 → ⊥ = eqb-false (x / 256) (y / 256) f in
          let m : y / 256 ≤ x / 256 = ltb-false (x / 256) (y / 256) e in
          first_more x y t (omega arith)

-- ---- so words are compared as their bytes are

module _ (w v : ℕ) (k : w < WORD) (l : v < WORD) where
  -- one byte more
  up : (p q : ℕ) → w / p / 256 ≡ w / q → v / p / 256 ≡ v / q → (t : Bool) → first (w / p) (v / p) t ≡ first (w / q) (v / q) (first (w / p % 256) (v / p % 256) t)
  up p q e f t = first_byte (w / p) (v / p) t ∙ ap₂ (λ (x y : ℕ). first x y (first (w / p % 256) (v / p % 256) t)) e f

  -- there is no byte above the highest
  top : (t : Bool) → first (w / 72057594037927936) (v / 72057594037927936) t ≡ first (w / 72057594037927936 % 256) (v / 72057594037927936 % 256) t
  top t =
      let a : w / 72057594037927936 ≡ w / 72057594037927936 % 256 = omega arith in
      let b : v / 72057594037927936 ≡ v / 72057594037927936 % 256 = omega arith in
      ap₂ (λ (x y : ℕ). first x y t) a b

  first-bytes : (r s : List ℕ) → first w v (before r s) ≡ before (bytes_of w ++ r) (bytes_of v ++ s)
  unfolding before
  first-bytes r s =
      first_byte w v _
      ∙ up 256 65536 (omega arith) (omega arith) _
      ∙ up 65536 16777216 (omega arith) (omega arith) _
      ∙ up 16777216 4294967296 (omega arith) (omega arith) _
      ∙ up 4294967296 1099511627776 (omega arith) (omega arith) _
      ∙ up 1099511627776 281474976710656 (omega arith) (omega arith) _
      ∙ up 281474976710656 72057594037927936 (omega arith) (omega arith) _
      ∙ top _

before-bytes : (a b : List ℕ) → length a ≡ length b → Words a → Words b → before (octets a) (octets b) ≡ before a b
unfolding before octets
before-bytes [] [] l f g = refl
before-bytes [] (y ∷ ys) l f g = absurd (omega arith)
before-bytes (x ∷ xs) [] l f g = absurd (omega arith)
before-bytes (x ∷ xs) (y ∷ ys) l f g = sym (first-bytes x y f.0 g.0 (octets xs) (octets ys)) ∙ ap (first x y) (before-bytes xs ys (omega arith) f.1 g.1)

-- ---- and names as the bytes that hold them

-- all bytes after a run of name bytes are zeros
abbrev ends : List ℕ → Bool
ends bs = all (eqb 0) (skip name_byte bs)

module _ (x : ℕ) where
  -- a name byte is not zero
  some : name_byte x ≡ true → 0 < x
  some e = by (eqb 0 x) refl
    where
      by : (t : Bool) → eqb 0 x ≡ t → 0 < x
      by true f = true-false (sym e ∙ ap name_byte (sym (eqb-true 0 x f)))
      by false f = let n : 0 ≡ x → ⊥ = eqb-false 0 x f in omega arith

  zero-first : (xs : List ℕ) → all (eqb 0) (x ∷ xs) ≡ true → (0 ≡ x) × (all (eqb 0) xs ≡ true)
  unfolding all
  zero-first xs e = let b = first_then (eqb 0 x) (all (eqb 0) xs) e in (eqb-true 0 x b.0, b.1)

before-zeros : (xs ys : List ℕ) → length xs ≡ length ys → all (eqb 0) xs ≡ true → all (eqb 0) ys ≡ true → before xs ys ≡ false
unfolding before
before-zeros [] [] l e f = refl
before-zeros [] (y ∷ ys) l e f = absurd (omega arith)
before-zeros (x ∷ xs) [] l e f = absurd (omega arith)
before-zeros (x ∷ xs) (y ∷ ys) l e f =
    let a = zero-first x xs e in
    let b = zero-first y ys f in
    first-same x y (before xs ys) (sym a.0 ∙ b.0) ∙ before-zeros xs ys (omega arith) a.1 b.1

before-runs : (xs ys : List ℕ) → length xs ≡ length ys → ends xs ≡ true → ends ys ≡ true → before (run name_byte xs) (run name_byte ys) ≡ before xs ys
unfolding before
before-runs [] [] l e f = refl
before-runs [] (y ∷ ys) l e f = absurd (omega arith)
before-runs (x ∷ xs) [] l e f = absurd (omega arith)
before-runs (x ∷ xs) (y ∷ ys) l e f = by (name_byte x) (name_byte y) refl refl e f (λ g h. before-runs xs ys (omega arith) g h)
  where
    by : (s t : Bool) → name_byte x ≡ s → name_byte y ≡ t
        → all (eqb 0) (if s then skip name_byte xs else (x ∷ xs)) ≡ true → all (eqb 0) (if t then skip name_byte ys else (y ∷ ys)) ≡ true
        → (ends xs ≡ true → ends ys ≡ true → before (run name_byte xs) (run name_byte ys) ≡ before xs ys)
        → before (if s then x ∷ run name_byte xs else []) (if t then y ∷ run name_byte ys else []) ≡ first x y (before xs ys)
    by true true a b g h r = ap (first x y) (r g h)
    by true false a b g h r = let z = (zero-first y ys h).0 in sym (first_more x y (before xs ys) (omega (arith, some x a)))
    by false true a b g h r = let z = (zero-first x xs g).0 in sym (first-less x y (before xs ys) (omega (arith, some y b)))
    by false false a b g h r = sym (before-zeros (x ∷ xs) (y ∷ ys) l g h)

-- ---- names

pub length-bytes : (ws : List ℕ) → length (octets ws) ≡ 8 * length ws
unfolding octets
length-bytes [] = refl
length-bytes (w ∷ ws) = omega (arith, length-append (bytes_of w) (octets ws), length-bytes ws)

-- the bytes after a held name are zeros
holds-ends : (ws : List ℕ) → holds_name ws ≡ true → ends (octets ws) ≡ true
unfolding holds_name
holds-ends ws e = (both (leb 1 (length (unpacked ws))) (ends (octets ws)) e).1

-- neither of two lists stands before the other exactly when they are equal
pub equal-neither : (xs ys : List ℕ) → equal xs ys ≡ not (before xs ys) && not (before ys xs)
unfolding equal before
equal-neither [] [] = refl
equal-neither [] (y ∷ ys) = refl
equal-neither (x ∷ xs) [] = refl
equal-neither (x ∷ xs) (y ∷ ys) = by (ltb x y) (ltb y x) refl refl (equal-neither xs ys)
  where
    by : (a b : Bool) → ltb x y ≡ a → ltb y x ≡ b → equal xs ys ≡ not (before xs ys) && not (before ys xs)
        → eqb x y && equal xs ys ≡ not (a || (eqb x y && before xs ys)) && not (b || (eqb y x && before ys xs))
    by true b e f r = rw (ne_eqb x y (λ q. omega (arith, ltb-true x y e)))
    by false true e f r = rw (ne_eqb x y (λ q. omega (arith, ltb-true y x f)))
    by false false e f r = rw (eq-eqb x y (omega (arith, ltb-false x y e, ltb-false y x f)), eq-eqb y x (omega (arith, ltb-false x y e, ltb-false y x f))) r

module _ (a b : List ℕ) (l : length a ≡ length b) (A : Words a) (B : Words b) (f : holds_name a ≡ true) (g : holds_name b ≡ true) where
  pub before-unpacked : before (unpacked a) (unpacked b) ≡ before a b
  unfolding unpacked
  before-unpacked =
      before-runs (octets a) (octets b) (omega (arith, length-bytes a, length-bytes b)) (holds-ends a f) (holds-ends b g) ∙ before-bytes a b l A B

module _ (a b : List ℕ) (l : length a ≡ length b) (A : Words a) (B : Words b) (f : holds_name a ≡ true) (g : holds_name b ≡ true) where
  pub equal-unpacked : equal (unpacked a) (unpacked b) ≡ equal a b
  equal-unpacked =
      equal-neither (unpacked a) (unpacked b)
      ∙ ap₂ (λ (s t : Bool). not s && not t) (before-unpacked a b l A B f g) (before-unpacked b a (sym l) B A g f)
      ∙ sym (equal-neither a b)
