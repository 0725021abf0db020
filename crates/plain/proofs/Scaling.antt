-- A fraction with all the digits that a format keeps, times a power of two: `round` keeps the same number of it, that many places up.
-- Assumes nothing.
use mathlib.Core.Path.{◌≡◌, sym, ap, ◌∙◌}
use mathlib.Core.Bool.{Bool}
use Prim.Native.Nat.{ℕ, suc, ◌+◌, ◌-◌, ◌*◌, ◌/◌, ◌^◌, ◌≤◌, ◌<◌}
use native.Mathlib.Nat.{le_trans, le_of_eq, lt_of_lt_of_le, lt_of_not-le, not-le_of_lt, mul_comm, mul_assoc, mul_left_comm, mul_right_comm, mul-le-mul_right, mul-lt-mul_of_pos_right, mul-pos, le-div_iff_mul-le, div-lt_iff_lt-mul, mul-div-mul_right}
use native.Mathlib.Omega.{arith}
use lib.Count.{count_leading_zeros, leading_top}
use lib.Pow.{pow-add, pow_pos, pow_mono}
use lib.Ieee.{Format, prec, low, size, units, round}
use lib.Ieee.Digits.{size-lt, size-le, size_reaches}
use lib.Ieee.Fits.{round_is, two, two-le_pos}
use lib.Ieee.Nearest.{closest, closest_same}
use lib.Ieee.Order.{drop, kept}

pub size_above : (n j : ℕ) → 2 ^ j ≤ n → j < size n
size_above n j h = lt_of_not-le (λ (g : size n ≤ j). not-le_of_lt (lt_of_lt_of_le (size-lt n) (pow_mono g)) h)

-- the number of digits, by the powers of two that a number lies between
pub size_is : (n j : ℕ) → 2 ^ j ≤ n → n < 2 ^ suc j → size n ≡ suc j
size_is n j h g = let a = size_above n j h in let b = size-le n (suc j) g in omega arith

-- and by the zeros above it in k places
pub size-zeros : (k n : ℕ) → 0 < n → n < 2 ^ k → count_leading_zeros k n + size n ≡ k
size-zeros k n P M = let z = leading_top k n P M in ap (λ (j : ℕ). count_leading_zeros k n + j) (size_is n z.0 z.2 z.3) ∙ z.1

module _ (a b e : ℕ) (B : 0 < b) where
  -- e digits more
  size-scaled : 0 < size (a / b) → size (a * 2 ^ e / b) ≡ size (a / b) + e
  size-scaled Z =
      let z = size (a / b) in
      let low : 2 ^ (z - 1) * b ≤ a = (le-div_iff_mul-le B).0 (size_reaches (a / b) (z - 1) (omega arith)) in
      let high : a < 2 ^ z * b = (div-lt_iff_lt-mul B).0 (size-lt (a / b)) in
      let moved : (i : ℕ) → 2 ^ (i + e) * b ≡ 2 ^ i * b * 2 ^ e = λ i. ap (λ (n : ℕ). n * b) (pow-add 2 i e) ∙ mul_right_comm (2 ^ i) (2 ^ e) b in
      let least : 2 ^ (z - 1 + e) * b ≤ a * 2 ^ e = le_trans (le_of_eq (moved (z - 1))) (mul-le-mul_right (2 ^ e) low) in
      let most : a * 2 ^ e < 2 ^ (z + e) * b = lt_of_lt_of_le (mul-lt-mul_of_pos_right high (pow_pos e)) (le_of_eq (sym (moved z))) in
      let l = size_above (a * 2 ^ e / b) (z - 1 + e) ((le-div_iff_mul-le B).1 least) in
      let m = size-le (a * 2 ^ e / b) (z + e) ((div-lt_iff_lt-mul B).1 most) in
      omega arith

  pub round-scaled : (f : Format) (s : Bool) → prec f ≤ size (a / b)
      → round f s (a * 2 ^ e) (b * 2 ^ low f) ≡ units f s (kept (prec f) a b) (drop (prec f) a b + e)
  round-scaled f s P =
      let l = 2 ^ low f in
      let p = prec f in
      let k = drop p a b in
      let z : size (a * 2 ^ e * l / (b * l)) ≡ size (a / b) + e =
      ap size (mul-div-mul_right (a * 2 ^ e) b (pow_pos (low f))) ∙ size-scaled (lt_of_lt_of_le (two-le_pos p (two f)) P) in
      let d : size (a * 2 ^ e * l / (b * l)) - p ≡ k + e = omega arith in
      round_is f s (a * 2 ^ e) (b * l)
      ∙ ap (λ (j : ℕ). units f s (closest (a * 2 ^ e * l) (b * l * 2 ^ j)) j) d
      ∙ ap (λ (q : ℕ). units f s q (k + e))
      (closest_same (a * 2 ^ e * l) (b * l * 2 ^ (k + e)) a (b * 2 ^ k) (mul-pos (mul-pos B (pow_pos (low f))) (pow_pos (k + e))) (mul-pos B (pow_pos k))
      (simp (mul_assoc, mul_comm, mul_left_comm, pow-add)))
