-- `open_statement` meets its contract: the name's words and the bare head are stored where the pen stands. Assumes nothing.
use Rattle.page.specs.Writing.{opened_on}
use Rattle.page.proofs.pen.open_statement.Goals as goal

pub returns : goal.returns
unfolding opened_on
returns c =
    rw (c.store.ensures, c.write_name.ensures, c.bare_head-head.ensures)
