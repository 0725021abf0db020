-- `list_on` meets its contract: a byte that is not fair comes first, and then the list's part in the line. Assumes nothing.
use mathlib.Core.Path.{sym, ap, ◌∙◌}
use borrow.Author.Tests.{lt-ltb, le-ltb}
use Rattle.std.specs.Prelude.{Ok, Err}
use Rattle.std.proofs.lemmas.Result.{err_from_is_err_and}
use Rattle.statement.specs.Values.{listed}
use Rattle.text.specs.Line.{answer_of}
use Rattle.text.proofs.Counting.{counted-list}
use Rattle.text.proofs.line.list_on.Goals as goal

pub returns-then-k-line : goal.returns-then-k-line
returns-then-k-line c = simp (sym c.past-k.ensures, lt-ltb _ _ c.if-k-line.true) (ap Err c.at.ensures)

pub returns-in_err-list : goal.returns-in_err-list
returns-in_err-list c =
    let a = c.args in
    let p = err_from_is_err_and c.from_residual.result c.from_residual.ensures.1 in
    rw (p.1, p.2)
    (simp (sym c.past-k.ensures, le-ltb _ _ c.if-k-line.false)
    (ap (answer_of 0) (sym c.in_err-list.was ∙ c.list.ensures) ∙ counted-list (listed a.kind a.line.now 0)))

pub returns : goal.returns
returns c =
    let a = c.args in
    simp (sym c.past-k.ensures, le-ltb _ _ c.if-k-line.false)
    (ap Ok c.stepped.ensures ∙ ap (answer_of 0) (sym c.in_ok-list.was ∙ c.list.ensures) ∙ counted-list (listed a.kind a.line.now 0))
