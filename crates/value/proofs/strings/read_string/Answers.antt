-- `read_string` meets its contract: either way out is one case of `enclosed`. Assumes nothing.
use mathlib.Core.Path.{sym, ap}
use Rattle.std.specs.Prelude.{Err}
use Rattle.value.specs.Strings.{string_at}
use Rattle.value.proofs.strings.read_string.Goals as goal

pub returns-in-Some : goal.returns-in-Some
unfolding string_at
returns-in-Some c = simp (sym c.find_closing.ensures, c.in-Some.is) c.fitting.ensures

pub returns-in-None : goal.returns-in-None
unfolding string_at
returns-in-None c = simp (sym c.find_closing.ensures, c.in-None.is) (ap Err c.at.ensures)
