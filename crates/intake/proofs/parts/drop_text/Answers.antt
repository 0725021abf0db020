-- `drop_text` meets its contract: the tests are asked first, and then one word is written. Assumes nothing.
use mathlib.Core.Path.{sym}
use Rattle.pool.proofs.Tested.{passed_on}
use Rattle.intake.proofs.Answers.{drop-unready, drop-done}
use Rattle.intake.proofs.parts.drop_text.Goals as goal

pub returns-in_err-test_open : goal.returns-in_err-test_open
returns-in_err-test_open c = rw (passed_on c.from_residual.result c.from_residual.ensures.1) (drop-unready _ _ (sym c.in_err-test_open.ensures))

pub returns : goal.returns
returns c = drop-done _ (sym c.in_ok-test_open.ensures) _ c.store.ensures
