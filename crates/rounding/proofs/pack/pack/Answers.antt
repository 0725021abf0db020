-- `pack` meets its contract: the zeros above a number say how many digits are dropped of it. Assumes nothing.
use Prim.Native.Nat.{ℕ, ◌+◌, ◌-◌, ◌*◌, ◌%◌, ◌^◌, ◌≤◌, ◌<◌}
use mathlib.Core.Path.{◌≡◌, sym, subst}
use mathlib.Core.Bool.{false, not}
use native.Mathlib.Nat.{lt_of_lt_of_le}
use native.Mathlib.Omega.{arith}
use borrow.Author.Tests.{le-ltb}
use lib.Dec.{T}
use lib.Pow.{pow_pos}
use lib.Count.{count_leading_zeros}
use lib.Ieee.{binary64, size, round, of_bits, nan_bits}
use lib.Ieee.Bits.{nan_bits_above}
use lib.Ieee.Nearest.{closest}
use Rattle.plain.proofs.Scaling.{size-zeros}
use Rattle.rounding.proofs.Packed.{PLACE, dropped, enough, kept_high, packed}
use Rattle.rounding.proofs.pack.pack.Goals as goal

module _ (n : ℕ) (N : 2 ^ 54 ≤ n) (M : n < 2 ^ 64) where
  zeros : count_leading_zeros 64 n + size n ≡ 64
  zeros = size-zeros 64 n (lt_of_lt_of_le (pow_pos 54) N) M

  zeros-most : count_leading_zeros 64 n ≤ 9
  zeros-most = omega (arith, zeros, enough n N M)

  drops : 11 - count_leading_zeros 64 n ≡ dropped n
  drops = omega (arith, zeros, enough n N M)

  kept-most : closest n (2 ^ (11 - count_leading_zeros 64 n)) ≤ PLACE * 2
  kept-most = subst (λ (d : ℕ). closest n (2 ^ d) ≤ PLACE * 2) (sym drops) (kept_high n N M)

  is-packed : (r e : ℕ) → r ≡ closest n (2 ^ (11 - count_leading_zeros 64 n)) → e ≤ 2000
      → of_bits binary64 (r + (11 - count_leading_zeros 64 n + e) * PLACE) ≡ round binary64 false (n * 2 ^ e) (2 ^ 1074)
  is-packed r e h E = rw (h, drops) (packed n N M e E)

no_nan : (b : ℕ) → b ≤ 2047 * PLACE → T (not (nan_bits binary64 b))
no_nan b h = rw (nan_bits_above binary64 b, le-ltb (2047 * PLACE) (b % 2 ^ 63) (omega arith)) tt

pub overflow_sub-dropped : goal.overflow_sub-dropped
overflow_sub-dropped c = omega (arith, zeros-most c.args.n c.requires.0 c.ranges.n.fits)

pub overflow_add-result-2 : goal.overflow_add-result-2
overflow_add-result-2 c = omega (arith, c.kept.ensures, kept-most c.args.n c.requires.0 c.ranges.n.fits)

pub float_from_bits-result : goal.float_from_bits-result
float_from_bits-result c = no_nan _ (omega (arith, c.kept.ensures, kept-most c.args.n c.requires.0 c.ranges.n.fits))

pub returns : goal.returns
returns c = is-packed c.args.n c.requires.0 c.ranges.n.fits c.kept.result c.args.e c.kept.ensures c.requires.1
