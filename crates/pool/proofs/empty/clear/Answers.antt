-- `clear` meets its contract: the tests are asked first, and then nothing is held. Assumes nothing.
use mathlib.Core.Path.{sym}
use Rattle.pool.proofs.Emptying.{clear-refused, clear-done}
use Rattle.pool.proofs.Tested.{passed_on}
use Rattle.pool.proofs.empty.clear.Goals as goal

pub returns-in_err-test_closed : goal.returns-in_err-test_closed
returns-in_err-test_closed c = rw (passed_on c.from_residual.result c.from_residual.ensures.1) (clear-refused c.args.pool.now _ (sym c.in_err-test_closed.ensures))

pub returns : goal.returns
returns c = clear-done c.args.pool.now _ (sym c.in_ok-test_closed.ensures) c.hold_nothing.ensures
