-- `read_name` meets its contract: each way out is one case of `head_named`. Assumes nothing.
use native.Mathlib.Omega.{arith}
use mathlib.Core.Path.{sym, ap}
use Rattle.std.specs.Prelude.{Err}
use borrow.Author.Tests.{le-leb, lt-leb}
use Rattle.plain.proofs.Places.{past_after}
use Rattle.value.specs.Classes.{name_byte}
use Rattle.statement.specs.Head.{NAME}
use Rattle.statement.proofs.head.read_name.Goals as goal

pub overflow_sub-long : goal.overflow_sub-long
overflow_sub-long c =
    let a = c.args in
    omega (arith, c.past-end.ensures, past_after name_byte a.line.now a.start)

pub returns-then-long-lt1 : goal.returns-then-long-lt1
returns-then-long-lt1 c = simp (sym c.past-end.ensures, lt-leb 1 _ c.if-long-lt1.true) (ap Err c.at.ensures)

pub returns-then-long-gt-NAME : goal.returns-then-long-gt-NAME
returns-then-long-gt-NAME c = simp (sym c.past-end.ensures, le-leb 1 _ c.if-long-lt1.false, lt-leb _ NAME c.if-long-gt-NAME.true) (ap Err c.at-then-long-gt-NAME.ensures)

pub returns : goal.returns
returns c = simp (sym c.past-end.ensures, le-leb 1 _ c.if-long-lt1.false, le-leb _ NAME c.if-long-gt-NAME.false, sym c.past.ensures) c.read_operator.ensures
