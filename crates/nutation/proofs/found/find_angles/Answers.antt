-- `find_angles` meets its contract: where none are wanted, none are found and nothing is written. Assumes nothing.
use Rattle.nutation.proofs.Looked.{nothing}
use Rattle.nutation.proofs.found.find_angles.Goals as goal

pub returns-else-wanted : goal.returns-else-wanted
returns-else-wanted c = rw c.if-wanted.false (nothing _)
