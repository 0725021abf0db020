-- `add_digit` meets its contract: from a tenth of FAR on, the number with one digit more is FAR at least. Assumes nothing.
use mathlib.Core.Path.{refl}
use mathlib.Core.Logic.{inl, inr}
use native.Mathlib.Omega.{arith}
use Rattle.decimal.proofs.digits.add_digit.Goals as goal

pub returns-then-w : goal.returns-then-w
returns-then-w c = inl refl

pub returns-else-w : goal.returns-else-w
returns-else-w c = inr (omega arith)
