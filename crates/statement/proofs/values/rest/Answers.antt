-- `rest` meets its contract: either way out is one case of `rest`. Assumes nothing.
use mathlib.Core.Path.{sym, ap}
use Rattle.std.specs.Prelude.{Err}
use borrow.Author.Tests.{lt-ltb, le-ltb}
use Rattle.statement.specs.Values.{rest}
use Rattle.statement.proofs.values.rest.Goals as goal

pub returns-then-k-line : goal.returns-then-k-line
unfolding rest
returns-then-k-line c = λ vs e f. simp (sym c.past-k.ensures, lt-ltb _ _ c.if-k-line.true) (ap Err c.at.ensures)

pub returns : goal.returns
unfolding rest
returns c = λ vs e f. simp (sym c.past-k.ensures, le-ltb _ _ c.if-k-line.false, e, f)
