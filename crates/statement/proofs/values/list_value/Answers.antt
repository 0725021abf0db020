-- `list_value` meets its contract: either way out is one case of `list_value`. Assumes nothing.
use mathlib.Core.Path.{sym, ap}
use Rattle.std.specs.Prelude.{Err}
use Rattle.statement.specs.Values.{list_value}
use Rattle.statement.proofs.values.list_value.Goals as goal

pub returns-then-admits : goal.returns-then-admits
unfolding list_value
returns-then-admits c = simp (sym c.stands.ensures, sym c.admits.ensures, c.if-admits.true) c.read_value.ensures

pub returns : goal.returns
unfolding list_value
returns c = simp (sym c.stands.ensures, sym c.admits.ensures, c.if-admits.false) (ap Err c.at.ensures)
