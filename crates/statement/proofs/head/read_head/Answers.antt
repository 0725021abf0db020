-- `read_head` meets its contract: each way out is one case of `head`. Assumes nothing.
use mathlib.Core.Path.{sym, ap, ◌∙◌}
use borrow.Author.Tests.{lt-ltb, le-ltb}
use Rattle.std.proofs.lemmas.Result.{err_from_is_err_and}
use Rattle.statement.specs.Head.{opening, head}
use Rattle.statement.proofs.head.read_head.Goals as goal

pub returns-in_err-read_name : goal.returns-in_err-read_name
unfolding head
returns-in_err-read_name c =
    let p = err_from_is_err_and c.from_residual.result c.from_residual.ensures.1 in
    rw (p.1, p.2) (simp (sym c.past-start.ensures, lt-ltb _ _ c.if-start-line.true) (ap opening (sym c.in_err-read_name.was ∙ c.read_name.ensures)))

pub returns-then-start-line : goal.returns-then-start-line
unfolding head
returns-then-start-line c = simp (sym c.past-start.ensures, lt-ltb _ _ c.if-start-line.true) (ap opening (sym c.in_ok-read_name.was ∙ c.read_name.ensures))

pub returns : goal.returns
unfolding head
returns c = simp (sym c.past-start.ensures, le-ltb _ _ c.if-start-line.false)
