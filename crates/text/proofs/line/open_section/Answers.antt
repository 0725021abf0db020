-- `open_section` meets its contract: each way out is one case of `section`. Assumes nothing.
use mathlib.Core.Path.{ap}
use Rattle.std.specs.Prelude.{Ok, Err}
use Rattle.text.proofs.line.open_section.Goals as goal

pub returns-in-Text : goal.returns-in-Text
returns-in-Text c = simp c.in-Text.is (ap Ok c.leaving.ensures)

pub returns-in-Data : goal.returns-in-Data
returns-in-Data c = simp c.in-Data.is (ap Ok c.leaving-in-Data.ensures)

pub returns-in-List : goal.returns-in-List
returns-in-List c = simp c.in-List.is (ap Err c.at.ensures)
