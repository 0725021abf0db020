-- `line_step` meets its contract: its two ways out are the two cases of `answered`. Assumes nothing.
use mathlib.Core.Path.{sym, ap}
use Rattle.std.specs.Prelude.{Err}
use Rattle.text.specs.Line.{answered}
use Rattle.text.proofs.line.line_step.Goals as goal

pub returns-then-is_too_long : goal.returns-then-is_too_long
unfolding answered
returns-then-is_too_long c = simp (sym c.read_mark-mark.ensures, sym c.is_too_long.ensures, c.if-is_too_long.true) (ap Err c.at.ensures)

pub returns : goal.returns
unfolding answered
returns c =
    simp (sym c.read_mark-mark.ensures, sym c.is_too_long.ensures, c.if-is_too_long.false) c.marked.ensures
