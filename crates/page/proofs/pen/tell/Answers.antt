-- `tell` meets its contract: either way out is one case of `told_on`. Assumes nothing.
use borrow.Author.Tests.{eq-eqb, ne_eqb}
use Rattle.page.specs.Writing.{told_on}
use Rattle.page.proofs.pen.tell.Goals as goal

pub returns-then-count-eq0 : goal.returns-then-count-eq0
unfolding told_on
returns-then-count-eq0 c = rw (eq-eqb _ 0 c.if-count-eq0.true)

pub returns : goal.returns
unfolding told_on
returns c =
    rw (ne_eqb _ 0 c.if-count-eq0.false, c.store.ensures, c.count_on-head.ensures)
