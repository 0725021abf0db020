-- "Both operands are exact, so it is rounded once": up to 2^53 every whole number is a double, and up to the steepest k every power of ten,
-- since 5^22 has no more digits than a double keeps. Assumes nothing.
use Prim.Native.Nat.{ℕ, zero, suc, ◌+◌, ◌*◌, ◌^◌, ◌≤◌, ◌<◌}
use mathlib.Core.Path.{◌≡◌, refl, ap, sym, subst, ◌∙◌}
use mathlib.Core.Bool.{false}
use native.Mathlib.Nat.{lt_of_le_of_lt, one-le-pow, mul-one, mul_assoc, mul-mul-mul_comm, mul-le-mul_right, pow-suc, pow-le-pow_right}
use lib.Dec.{lit<}
use lib.Pow.{pow-add}
use lib.Ieee.{binary64, low, emax, of_int, round}
use lib.Ieee.Back.{round_whole}
use lib.Ieee.Exact.{HasValue, round_exact}
use Rattle.plain.specs.Doubles.{◌⊗◌, ◌⊘◌}
use Rattle.plain.proofs.Products.{mul-of-values, div-of-values}
use Rattle.rounding.specs.Exact.{LARGEST, STEEPEST, double}

pub whole-exact : (w : ℕ) → w ≤ LARGEST → HasValue (double w) false w 1
unfolding of_int
whole-exact w h = round_whole binary64 false w h

pub ten-pow : (k : ℕ) → 10 ^ k ≡ 5 ^ k * 2 ^ k
ten-pow zero = refl
ten-pow (suc k) = rw (pow-suc 10 k, pow-suc 5 k, pow-suc 2 k, ten-pow k) (mul-mul-mul_comm (5 ^ k) (2 ^ k) 5 2)

module _ (k : ℕ) (K : k ≤ STEEPEST) where
  pub power-exact : HasValue (double (10 ^ k)) false (10 ^ k) 1
  unfolding of_int
  power-exact =
      let l = low binary64 in
      let e : 10 ^ k * 2 ^ l ≡ 5 ^ k * 2 ^ (k + l) =
      ap (λ (n : ℕ). n * 2 ^ l) (ten-pow k) ∙ mul_assoc (5 ^ k) (2 ^ k) (2 ^ l) ∙ ap (λ (n : ℕ). 5 ^ k * n) (sym (pow-add 2 k l)) in
      let five : 5 ^ k ≤ 5 ^ STEEPEST = pow-le-pow_right (lit< tt) K in
      let ten : 10 ^ k ≤ 10 ^ STEEPEST = pow-le-pow_right (lit< tt) K in
      round_exact binary64 false (10 ^ k) 1 (5 ^ k) (k + l) (lit< tt) (lt_of_le_of_lt five (lit< tt))
      (subst (λ (n : ℕ). n < 2 ^ (l + suc (emax binary64))) e (lt_of_le_of_lt (mul-le-mul_right (2 ^ l) ten) (lit< tt)))
      (e ∙ sym (mul-one (5 ^ k * 2 ^ (k + l))))

  module _ (w : ℕ) (W : w ≤ LARGEST) where
    pub times-once : double w ⊗ double (10 ^ k) ≡ round binary64 false (w * 10 ^ k) 1
    times-once = mul-of-values binary64 (double w) (double (10 ^ k)) false false w 1 (10 ^ k) 1 (lit< tt) (lit< tt) (whole-exact w W) power-exact

    pub over-once : double w ⊘ double (10 ^ k) ≡ round binary64 false w (10 ^ k)
    over-once =
        div-of-values binary64 (double w) (double (10 ^ k)) false false w 1 (10 ^ k) 1 (lit< tt) (lit< tt) (one-le-pow k 10 (lit< tt))
        (whole-exact w W) power-exact
        ∙ simp mul-one
