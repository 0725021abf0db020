-- `statement` meets its contract: a byte that is not fair comes first, and then the statement with its values. Assumes nothing.
use mathlib.Core.Path.{sym, ap, ◌∙◌}
use borrow.Author.Tests.{le-ltb}
use Rattle.std.specs.Prelude.{Option, Result, Ok}
use Rattle.value.specs.declared.faults.LineFault.{LineFault}
use Rattle.statement.specs.declared.head.Named.{Named}
use Rattle.text.specs.Line.{answer_of, counted, stated}
use Rattle.text.proofs.Counting.{counted-statement}
use Rattle.text.proofs.line.statement.Goals as goal

pub returns : goal.returns
returns c =
    let line = c.args.line.now in
    let e = sym (rw c.in-Some.is at c.in_ok-head.was) ∙ c.read_head.ensures in
    simp (sym c.past-k.ensures, le-ltb _ _ c.if-k-line.false)
    (ap Ok c.stepped.ensures
    ∙ ap (answer_of 1) (sym c.in_ok-value.was ∙ c.value.ensures)
    ∙ counted-statement line c.in-Some.head
    ∙ ap (λ (h : Result (Option Named) LineFault). counted (stated line h)) e)
