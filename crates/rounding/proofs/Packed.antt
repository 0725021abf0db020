-- A double put together from its bits: the digits that are kept, and above them how many places they stand up. Assumes nothing.
use mathlib.Core.Path.{◌≡◌, sym, ap, ◌∙◌}
use mathlib.Core.Logic.{⊎_elim}
use mathlib.Core.Bool.{false}
use Prim.Native.Nat.{ℕ, suc, ◌+◌, ◌-◌, ◌*◌, ◌/◌, ◌%◌, ◌^◌, ◌≤◌, ◌<◌, compare}
use native.Mathlib.Nat.{le_trans, le_of_eq, lt_of_le_of_lt, eq-or-lt_of_le, zero-lt-suc, one-mul, mul-le-mul_right, div-one, le-div_iff_mul-le}
use native.Mathlib.Omega.{arith}
use lib.Dec.{lit≤, lit<}
use lib.Pow.{pow-add, pow_pos, pow-lt, shl_lt, shl-shr}
use lib.Ieee.{binary64, size, units, round, of_bits}
use lib.Ieee.Bits.{of_bits-to_bits}
use lib.Ieee.Digits.{size-le, size_reaches}
use lib.Ieee.Exact.{HasValue, units_val}
use lib.Ieee.Fits.{round-fits, nearest-le, kept-lt}
use lib.Ieee.Nearest.{closest, nearest-ge}
use lib.Ieee.Order.{drop, kept}
use Rattle.plain.proofs.Bits.{fields, bits-of-units}
use Rattle.plain.proofs.Scaling.{size_above, round-scaled}

-- 2^52, the weight of the exponent
abbrev pub PLACE : ℕ
PLACE = 4503599627370496

-- the bits of m · 2^j of the smallest doubles
fields-of : (m j : ℕ) → PLACE ≤ m → m < PLACE * 2 → fields binary64 (m * 2 ^ j) ≡ m + j * PLACE
fields-of m j l h =
    let least : 52 + j < size (m * 2 ^ j) = size_above (m * 2 ^ j) (52 + j) (le_trans (le_of_eq (pow-add 2 52 j)) (mul-le-mul_right (2 ^ j) l)) in
    let most : size (m * 2 ^ j) ≤ 53 + j = size-le (m * 2 ^ j) (53 + j) (shl_lt 53 j h) in
    let d : size (m * 2 ^ j) - 53 ≡ j = omega arith in
    rw (d, shl-shr m j) (omega arith)

fields-up-to : (m j : ℕ) → PLACE ≤ m → m ≤ PLACE * 2 → fields binary64 (m * 2 ^ j) ≡ m + j * PLACE
fields-up-to m j l h = ⊎_elim full (fields-of m j l) (eq-or-lt_of_le h)
  where
    full : m ≡ PLACE * 2 → fields binary64 (m * 2 ^ j) ≡ m + j * PLACE
    full e =
        let s : m * 2 ^ j ≡ PLACE * 2 ^ suc j = omega (arith, ap (λ (n : ℕ). n * 2 ^ j) e) in
        ap (λ (n : ℕ). fields binary64 n) s ∙ fields-of PLACE (suc j) (lit≤ tt) (lit< tt) ∙ omega arith

-- the digits that are dropped of n
abbrev pub dropped : ℕ → ℕ
dropped n = size n - 53

module _ (n : ℕ) (N : 2 ^ 54 ≤ n) (M : n < 2 ^ 64) where
  abbrev m : ℕ
  m = closest n (2 ^ dropped n)

  pub enough : 54 < size n
  enough = size_above n 54 N

  few : size n ≤ 64
  few = size-le n 64 M

  kept_low : PLACE ≤ m
  kept_low =
      let a : 2 ^ (52 + dropped n) ≤ n = size_reaches n (52 + dropped n) (omega (arith, enough)) in
      le_trans ((le-div_iff_mul-le (pow_pos (dropped n))).1 (le_trans (le_of_eq (sym (pow-add 2 52 (dropped n)))) a))
      (nearest-ge (n / 2 ^ dropped n) (compare (n % 2 ^ dropped n * 2) (2 ^ dropped n)))

  pub kept_high : m ≤ PLACE * 2
  kept_high = le_trans (nearest-le (n / 2 ^ dropped n) (compare (n % 2 ^ dropped n * 2) (2 ^ dropped n))) (kept-lt 53 n)

  pub packed : (e : ℕ) → e ≤ 2000 → of_bits binary64 (m + (dropped n + e) * PLACE) ≡ round binary64 false (n * 2 ^ e) (2 ^ 1074)
  packed e E =
      let j = dropped n + e in
      let x = round binary64 false (n * 2 ^ e) (2 ^ 1074) in
      let d : drop 53 n 1 ≡ dropped n = ap (λ (z : ℕ). size z - 53) (div-one n) in
      let q : kept 53 n 1 ≡ m = ap (λ (z : ℕ). closest n (1 * 2 ^ z)) d ∙ ap (λ (z : ℕ). closest n z) (one-mul (2 ^ dropped n)) in
      let r : x ≡ units binary64 false m j =
      ap (λ (z : ℕ). round binary64 false (n * 2 ^ e) z) (sym (one-mul (2 ^ 1074)))
      ∙ round-scaled n 1 e (zero-lt-suc 0) binary64 false (omega (arith, enough, ap size (div-one n)))
      ∙ ap (λ (z : ℕ). units binary64 false z (drop 53 n 1 + e)) q
      ∙ ap (λ (z : ℕ). units binary64 false m (z + e)) d in
      let u : m * 2 ^ j < 2 ^ 2098 =
      lt_of_le_of_lt (le_trans (mul-le-mul_right (2 ^ j) kept_high) (le_of_eq (sym (pow-add 2 53 j)))) (pow-lt {i = 53 + j} {j = 2098} (omega (arith, few))) in
      let v : HasValue x false (m * 2 ^ j) (2 ^ 1074) = rw r (units_val binary64 false m j u) in
      ap (of_bits binary64) (sym (bits-of-units binary64 x (m * 2 ^ j) v ∙ fields-up-to m j kept_low kept_high))
      ∙ of_bits-to_bits binary64 x (round-fits binary64 false (n * 2 ^ e) (2 ^ 1074))
