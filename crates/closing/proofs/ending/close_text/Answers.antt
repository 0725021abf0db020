-- `close_text` meets its contract: 15 and 8 first, and then the text is found and concluded. Assumes nothing.
use mathlib.Core.Path.{sym}
use Rattle.pool.proofs.Tested.{passed_on, open-sound, open-opens}
use Rattle.intake.proofs.Finding.{opened_of}
use Rattle.closing.proofs.Closing.{close-unready}
use Rattle.closing.proofs.ending.close_text.Goals as goal

pub returns-in_err-test_open : goal.returns-in_err-test_open
returns-in_err-test_open c = rw (passed_on c.from_residual.result c.from_residual.ensures.1) (close-unready _ _ (sym c.in_err-test_open.ensures))

pub open_in-b-requires : goal.open_in-b-requires
open_in-b-requires c = let e = sym c.in_ok-test_open.ensures in opened_of _ (open-sound _ e) (open-opens _ e)

pub conclude-requires : goal.conclude-requires
conclude-requires c = let e = sym c.in_ok-test_open.ensures in record { finds = c.open_in-b.ensures; open-in = opened_of _ (open-sound _ e) (open-opens _ e) }
