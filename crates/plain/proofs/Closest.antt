-- The nearest whole number to a fraction is at most half a unit away, and numbers that differ are at least a unit apart: no other is nearer, and one
-- that is as near stands on the other side of a half, where the nearest is even and the other odd. Assumes nothing.
use mathlib.Core.Path.{◌≡◌, refl, sym, subst, ap, ap₂, ◌∙◌}
use mathlib.Core.Logic.{◌⊎◌, inl, inr}
use mathlib.Core.Bool.{not}
use Prim.Native.Nat.{ℕ, zero, suc, ◌+◌, ◌-◌, ◌*◌, ◌/◌, ◌%◌, ◌≤◌, ◌<◌, compare, Ordering}
use native.Mathlib.Nat.{add-mul, suc-mul, mul_comm, mul-sub, lt_of_le_of_lt, lt_of_mul-lt-mul_right, le_of_suc-le-suc, div-mul-le_self, div-add-mod', mod-lt}
use native.Mathlib.Omega.{arith}
use lib.Dec.{T, is_le, compare_is_eq, leb→le, nleb→lt, eqb→eq}
use lib.Ieee.{nearest}
use lib.Ieee.Fits.{eq→eqb}
use lib.Ieee.Nearest.{closest}
use Rattle.plain.specs.Nearest.{gap}

sub-mul : (x y l : ℕ) → (x - y) * l ≡ x * l - y * l
sub-mul x y l = mul_comm (x - y) l ∙ mul-sub l x y ∙ ap₂ (λ (m n : ℕ). m - n) (mul_comm l x) (mul_comm l y)

pub gap-mul : (x y l : ℕ) → gap x y * l ≡ gap (x * l) (y * l)
gap-mul x y l = add-mul (x - y) (y - x) l ∙ ap₂ (λ (m n : ℕ). m + n) (sub-mul x y l) (sub-mul y x l)

-- q units of b are at most half a unit away from a; where it is a half, q is even
record Half (a b q : ℕ) : Type 0 where
  most : gap a (q * b) * 2 ≤ b
  tie : gap a (q * b) * 2 ≡ b → q % 2 ≡ 0

module _ (a b : ℕ) (B : 0 < b) where
  abbrev d : ℕ
  d = a / b

  abbrev r : ℕ
  r = a % b

  low : (q : ℕ) → q ≡ d → r * 2 ≤ b → (r * 2 ≡ b → q % 2 ≡ 0) → Half a b q
  low q e h t =
      let u : q * b ≡ d * b = ap (λ (n : ℕ). n * b) e in
      let s : d * b + r ≡ a = div-add-mod' a b in
      let g : gap a (q * b) ≡ r = omega arith in
      record { most = omega arith; tie = λ k. t (omega arith) }

  high : (q : ℕ) → q ≡ suc d → b ≤ r * 2 → (r * 2 ≡ b → q % 2 ≡ 0) → Half a b q
  high q e h t =
      let u : q * b ≡ d * b + b = ap (λ (n : ℕ). n * b) e ∙ suc-mul d b in
      let s : d * b + r ≡ a = div-add-mod' a b in
      let l : r < b = mod-lt a B in
      let g : gap a (q * b) + r ≡ b = omega arith in
      record { most = omega arith; tie = λ k. t (omega arith) }

  half : Half a b (closest a b)
  half = by (compare (r * 2) b) (leb→le (r * 2) b) (nleb→lt (r * 2) b) (eqb→eq (r * 2) b) eq→eqb
    where
      even : (t : ℕ) → d % 2 ≡ t → r * 2 ≡ b → Half a b (d + d % 2)
      even zero e h = low (d + d % 2) (omega arith) (omega arith) (λ _. omega arith)
      even (suc t) e h = high (d + d % 2) (omega arith) (omega arith) (λ _. omega arith)

      by : (o : Ordering) → (T (is_le o) → r * 2 ≤ b) → (T (not (is_le o)) → b < r * 2) → (T (compare_is_eq o) → r * 2 ≡ b) → (r * 2 ≡ b → T (compare_is_eq o))
          → Half a b (nearest d o)
      by Ordering.lt l g e n = low d refl (l tt) (λ t. absurd (n t))
      by Ordering.eq l g e n = even (d % 2) refl (e tt)
      by Ordering.gt l g e n = let m = g tt in high (suc d) refl (omega arith) (λ t. absurd (n t))

-- no number of units of b is nearer to a than q; one that is as near is q, or it is odd and q is even
pub record Closest (a b q : ℕ) : Type 0 where
  pub no-nearer : (z : ℕ) → gap a (q * b) ≤ gap a (z * b)
  pub as-near : (z : ℕ) → gap a (q * b) ≡ gap a (z * b) → (z ≡ q) ⊎ ((q % 2 ≡ 0) × (z % 2 ≡ 1))
  pub beside : gap a (q * b) < b

triangle : (a x y : ℕ) → gap x y ≤ gap a x + gap a y
triangle a x y = omega arith

module _ (a b q : ℕ) (B : 0 < b) (h : Half a b q) where
  -- numbers that differ are so many units apart, and a is no nearer to both
  steps : (z i : ℕ) → gap q z ≡ suc i → i * b + b ≤ gap a (q * b) + gap a (z * b)
  steps z i e =
      let u : gap (q * b) (z * b) ≡ i * b + b = sym (gap-mul q z b) ∙ ap (λ (n : ℕ). n * b) e ∙ suc-mul i b in
      subst (λ (n : ℕ). n ≤ gap a (q * b) + gap a (z * b)) u (triangle a (q * b) (z * b))

  least : (z i : ℕ) → gap q z ≡ i → gap a (q * b) ≤ gap a (z * b)
  least z zero e = let s : z ≡ q = omega arith in rw s (omega arith)
  least z (suc i) e = let s = steps z i e in let m = h.most in omega arith

  other : (z i : ℕ) → gap q z ≡ i → gap a (q * b) ≡ gap a (z * b) → (z ≡ q) ⊎ ((q % 2 ≡ 0) × (z % 2 ≡ 1))
  other z zero e g = inl (omega arith)
  other z (suc zero) e g = let s = steps z 0 e in let m = h.most in let t = h.tie (omega arith) in inr (t, omega arith)
  other z (suc (suc i)) e g = let s = steps z (suc i) e in let m = h.most in let p = suc-mul i b in absurd (omega arith)

pub closest-is : (a b : ℕ) → 0 < b → Closest a b (closest a b)
closest-is a b B =
    let q = closest a b in
    let h = half a b B in
    let m = h.most in
    record { no-nearer = λ z. least a b q B h z (gap q z) refl; as-near = λ z. other a b q B h z (gap q z) refl; beside = omega arith }

-- what is less than a unit away is the whole part, or the next number
pub neighbours : (a b n : ℕ) → gap a (n * b) < b → (a / b ≤ n) × (n ≤ suc (a / b))
neighbours a b n h =
    let d = a / b in
    let l : d * b ≤ a = div-mul-le_self a b in
    let s : d * b + a % b ≡ a = div-add-mod' a b in
    let m : a % b < b = mod-lt a (lt_of_le_of_lt (omega arith) h) in
    let u : suc n * b ≡ n * b + b = suc-mul n b in
    let v : suc (suc d) * b ≡ d * b + b + b = suc-mul (suc d) b ∙ ap (λ (x : ℕ). x + b) (suc-mul d b) in
    (le_of_suc-le-suc (lt_of_mul-lt-mul_right b (omega arith)), le_of_suc-le-suc (lt_of_mul-lt-mul_right b (omega arith)))
