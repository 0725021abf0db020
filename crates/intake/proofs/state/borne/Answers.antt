-- `borne` meets its contract: only a text that is stored so far has a reader to be borne out. Assumes nothing.
use Rattle.intake.proofs.Bearing.{borne-storing, borne-overflowed, borne-faulted}
use Rattle.layout.specs.Memory.{open_body}
use Rattle.intake.proofs.state.borne.Goals as goal

pub returns-in-Storing : goal.returns-in-Storing
returns-in-Storing c = borne-storing (open_body c.args.pool.now) c.args.entered _ _ c.in-Storing.is c.borne_reader.ensures

pub returns-in-Overflowed : goal.returns-in-Overflowed
returns-in-Overflowed c = borne-overflowed (open_body c.args.pool.now) c.args.entered _ c.in-Overflowed.is

pub returns-in-Faulted : goal.returns-in-Faulted
returns-in-Faulted c = borne-faulted (open_body c.args.pool.now) c.args.entered _ c.in-Faulted.is
