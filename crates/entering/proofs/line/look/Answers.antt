-- `look` meets its contract: each way in which the text stands is one of the definition's. Assumes nothing.
use Rattle.entering.proofs.Completing.{stays-faulted, reads_on}
use Rattle.entering.proofs.line.look.Goals as goal

pub returns-in-Overflowed : goal.returns-in-Overflowed
returns-in-Overflowed c =
    reads_on _ _ c.requires _ c.in-Overflowed.is _ _ _ _ c.line_step.ensures c.read_on.ensures

pub returns-in-Faulted : goal.returns-in-Faulted
returns-in-Faulted c =
    stays-faulted _ _ c.requires _ c.in-Faulted.is _ _
