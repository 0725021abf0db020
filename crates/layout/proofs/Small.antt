-- A value's word is small exactly when the double is finite and below 2^200 in size; it is then no NaN's pattern. Assumes nothing.
use mathlib.Core.Path.{◌≡◌, ◌∙◌}
use mathlib.Core.Bool.{true, false}
use Prim.Native.Nat.{ℕ, ◌+◌, ◌%◌, ◌<◌}
use native.Mathlib.Omega.{arith}
use borrow.Author.Tests.{ltb-true, lt-ltb, le-ltb}
use lib.Ieee.{binary64, of_bits, nan_bits}
use lib.Ieee.Bits.{nan_bits_above}
use Rattle.plain.specs.Sizes.{Below}
use Rattle.plain.proofs.Fields.{field_below, below_field}
use Rattle.layout.specs.Damage.{BIAS, exponent_field, small}

-- the bits of infinity, above which are the NaNs
abbrev INFINITY : ℕ
INFINITY = 9218868437227405312

module _ (w : ℕ) where
  pub small-below : small w ≡ true → Below 200 (of_bits binary64 w)
  small-below e = field_below 200 w (omega arith) (ltb-true (exponent_field w) (BIAS + 200) e)

  pub below-small : Below 200 (of_bits binary64 w) → small w ≡ true
  below-small h = lt-ltb (exponent_field w) (BIAS + 200) (below_field 200 w h)

  pub small-number : small w ≡ true → nan_bits binary64 w ≡ false
  small-number e =
      let h : exponent_field w < BIAS + 200 = ltb-true (exponent_field w) (BIAS + 200) e in
      nan_bits_above binary64 w ∙ le-ltb INFINITY (w % 9223372036854775808) (omega arith)
