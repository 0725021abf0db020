-- `power` meets its contract: 5^k and 2^k are doubles, and their product is rounded once. Assumes nothing.
use Prim.Native.Nat.{ℕ, ◌*◌, ◌%◌, ◌^◌, ◌≤◌}
use mathlib.Core.Path.{◌≡◌, sym, ap, ap₂, ◌∙◌}
use mathlib.Core.Bool.{false}
use native.Mathlib.Nat.{le_trans, le_of_eq, lt_of_le_of_lt, one-mul, mod-eq_of_lt, pow-le-pow_right}
use lib.Dec.{le→leb, lit<, lit≤}
use lib.Ieee.{binary64, in_float, of_int, round}
use Rattle.plain.specs.Doubles.{◌⊗◌}
use Rattle.plain.proofs.Products.{mul-of-values}
use Rattle.rounding.specs.Exact.{STEEPEST, LARGEST, double}
use Rattle.rounding.proofs.Exact.{whole-exact, ten-pow}
use Rattle.rounding.proofs.Tens.power.Goals as goal

module _ (k : ℕ) (K : k ≤ STEEPEST) where
  five-most : 5 ^ k ≤ LARGEST
  five-most = le_trans (pow-le-pow_right (lit< tt) K) (lit≤ tt)

  two-most : 2 ^ k ≤ LARGEST
  two-most = le_trans (pow-le-pow_right (lit< tt) K) (lit≤ tt)

  two_is : 1 * 2 ^ k % 18446744073709551616 ≡ 2 ^ k
  two_is = ap (λ (n : ℕ). n % 18446744073709551616) (one-mul (2 ^ k)) ∙ mod-eq_of_lt (lt_of_le_of_lt two-most (lit< tt))

  ten-is : (n : ℕ) → n ≡ 5 ^ k → double n ⊗ double (1 * 2 ^ k % 18446744073709551616) ≡ double (10 ^ k)
  unfolding of_int
  ten-is n e =
      ap₂ (λ (p q : ℕ). double p ⊗ double q) e two_is
      ∙ mul-of-values binary64 (double (5 ^ k)) (double (2 ^ k)) false false (5 ^ k) 1 (2 ^ k) 1 (lit< tt) (lit< tt) (whole-exact (5 ^ k) five-most) (whole-exact (2 ^ k) two-most)
      ∙ ap (λ (n : ℕ). round binary64 false n 1) (sym (ten-pow k))

pub int_to_float-result : goal.int_to_float-result
unfolding in_float
int_to_float-result c = le→leb _ _ (le_trans (le_of_eq c.five.ensures) (five-most c.args.self.k c.args.self.small))

pub int_to_float-result-2 : goal.int_to_float-result-2
unfolding in_float
int_to_float-result-2 c = le→leb _ _ (le_trans (le_of_eq (two_is c.args.self.k c.args.self.small)) (two-most c.args.self.k c.args.self.small))

pub returns : goal.returns
returns c = ten-is c.args.self.k c.args.self.small c.five.result c.five.ensures
