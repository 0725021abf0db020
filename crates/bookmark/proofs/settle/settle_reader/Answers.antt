-- `settle_reader` meets its contract: each way out is one of its cases. Assumes nothing.
use mathlib.Core.Path.{ap}
use Rattle.statement.specs.declared.values.Reader.TheVariants as R
use Rattle.bookmark.proofs.settle.settle_reader.Goals as goal

pub returns-then-stored : goal.returns-then-stored
returns-then-stored c = simp (c.in-List.is, c.if-stored.true) (ap R.List c.list_of.ensures)
