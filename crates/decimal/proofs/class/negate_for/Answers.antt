-- `negate_for` meets its contract: each arm is one clause of `signed`. Assumes nothing.
use lib.Ieee.{neg}
use borrow.Author.Rules.{rules}
use Rattle.decimal.proofs.class.negate_for.Goals as goal

pub returns-then-minus : goal.returns-then-minus
unfolding neg
returns-then-minus c = search rules
