-- `store_last` meets its contract: without a last line all is stored; else that line is completed as any other. Assumes nothing.
use Rattle.closing.proofs.Closing.{stores-none, stores_some}
use Rattle.closing.proofs.ending.store_last.Goals as goal

pub returns-then-last-eq0 : goal.returns-then-last-eq0
returns-then-last-eq0 c = stores-none _ _ c.requires.finds _ c.settle-last.ensures c.if-last-eq0.true

pub returns : goal.returns
returns c =
    stores_some _ _ c.requires.finds _ c.settle-last.ensures c.if-last-eq0.false _ c.more.ensures _ c.line.ensures _ _ c.complete_line.ensures
