-- `plain` meets its contract: each way out is one case of `plain`. Assumes nothing.
use mathlib.Core.Path.{ap}
use Rattle.std.specs.Prelude.{Ok}
use Rattle.text.proofs.line.plain.Goals as goal

pub returns-in-Text : goal.returns-in-Text
returns-in-Text c = simp c.in-Text.is (ap Ok c.leaving.ensures)

pub returns-in-Data : goal.returns-in-Data
returns-in-Data c = simp c.in-Data.is c.statement.ensures

pub returns-in-List : goal.returns-in-List
returns-in-List c = simp c.in-List.is c.list_on.ensures
