-- `square` meets its contract: a binary digit that is not 0 is 1, and so is the exponent. Assumes nothing.
use Prim.Native.Nat.{ℕ, ◌*◌, ◌%◌, ◌^◌}
use mathlib.Core.Path.{◌≡◌}
use native.Mathlib.Nat.{one-mul, pow-zero, pow-suc}
use native.Mathlib.Omega.{arith}
use Rattle.rounding.proofs.power.square.Goals as goal

once : (n five b : ℕ) → b ≡ 1 → n * five ≡ n * five ^ b
once n five b e = rw e (simp (pow-suc five 0, pow-zero, one-mul))

pub overflow_mul-result : goal.overflow_mul-result
overflow_mul-result c = let a = c.args in omega (arith, once a.n a.five (a.k % 2) (omega arith))

pub returns-else-k-eq0 : goal.returns-else-k-eq0
returns-else-k-eq0 c = let a = c.args in once a.n a.five (a.k % 2) (omega arith)
