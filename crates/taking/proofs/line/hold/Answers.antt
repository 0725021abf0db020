-- `hold` meets its contract: there is no byte, or all but a CR at their end are kept. Assumes nothing.
use borrow.Author.Tests.{eqb-true, eqb-false}
use mathlib.Core.Path.{sym, ◌∙◌}
use Rattle.taking.proofs.Lines.{holds-none, holds-run}
use Rattle.taking.proofs.line.hold.Goals as goal

pub returns-then-is_empty : goal.returns-then-is_empty
returns-then-is_empty c = holds-none c.args.b c.args.bytes.now (eqb-true _ _ (sym c.is_empty.ensures ∙ c.if-is_empty.true))

pub returns : goal.returns
returns c =
    let w = c.without_cr-line in
    holds-run c.args.b c.args.bytes.now c.requires.0 c.requires.1 (eqb-false _ _ (sym c.is_empty.ensures ∙ c.if-is_empty.false))
    w.result.now c.settle.result c.keep_run.result w.ensures c.settle.ensures c.keep_run.ensures
