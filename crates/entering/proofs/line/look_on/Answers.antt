-- `look_on` meets its contract: what a line without a fault adds is summed up, and a fault ends what is stored. Assumes nothing.
use Rattle.entering.proofs.Numbers.{fault-of}
use Rattle.entering.proofs.Completing.{stops}
use Rattle.entering.proofs.line.look_on.Goals as goal

pub returns-in-Ok : goal.returns-in-Ok
returns-in-Ok c = c.sum_up.ensures _

pub returns-in-Err : goal.returns-in-Err
returns-in-Err c =
    stops _ _ c.requires.0 _ c.requires.1 _ _ _ _ _ (fault-of _ _ _ _ c.line_step.ensures c.in-Err.is) c.stopped.ensures
