-- `room` meets its contract: a number's highest digit, moved up by the zeros above it less those that are to be left. Assumes nothing.
use Prim.Native.Nat.{ℕ, ◌+◌, ◌-◌, ◌*◌, ◌^◌, ◌≤◌, ◌<◌}
use mathlib.Core.Path.{◌≡◌, ap, subst, ◌∙◌}
use native.Mathlib.Nat.{le_trans, le_of_eq, mul-le-mul_right}
use native.Mathlib.Omega.{arith}
use lib.Pow.{pow-add, shl_lt}
use lib.Count.{count_leading_zeros}
use lib.Ieee.{size}
use lib.Ieee.Digits.{size-lt, size-le, size_reaches}
use Rattle.plain.proofs.Scaling.{size_above, size-zeros}
use Rattle.rounding.specs.Leading.{Moved}
use Rattle.rounding.proofs.pack.room.Goals as goal

module _ (x free : ℕ) (X : 0 < x) (F : free ≤ 63) (S : x < 2 ^ (64 - free)) (M : x < 2 ^ 64) where
  abbrev shift : ℕ
  shift = count_leading_zeros 64 x - free

  enough : free ≤ count_leading_zeros 64 x
  enough = omega (arith, size-zeros 64 x X M, size-le x (64 - free) S)

  moved : Moved x free shift
  moved =
      let z = size x in
      let l : count_leading_zeros 64 x + z ≡ 64 = size-zeros 64 x X M in
      let s : 0 < z = size_above x 0 X in
      let low : 63 - free ≡ z - 1 + shift = omega (arith, enough) in
      let high : z + shift ≡ 64 - free = omega (arith, enough) in
      let top : 2 ^ (63 - free) ≡ 2 ^ (z - 1) * 2 ^ shift = ap (λ (n : ℕ). 2 ^ n) low ∙ pow-add 2 (z - 1) shift in
      record {
        least = le_trans (le_of_eq top) (mul-le-mul_right (2 ^ shift) (size_reaches x (z - 1) (omega arith)));
        most = subst (λ (n : ℕ). x * 2 ^ shift < 2 ^ n) high (shl_lt z shift (size-lt x));
        short = omega arith;
      }

pub overflow_sub-result : goal.overflow_sub-result
overflow_sub-result c = enough c.args.x c.args.free c.requires.0 c.requires.1 c.requires.2 c.ranges.x.fits

pub returns : goal.returns
returns c = moved c.args.x c.args.free c.requires.0 c.requires.1 c.requires.2 c.ranges.x.fits
