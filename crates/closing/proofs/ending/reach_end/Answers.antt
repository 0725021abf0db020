-- `reach_end` meets its contract: the last line is what was kept, with a CR that came last; none, or one more line. Assumes nothing.
use Rattle.closing.proofs.Closing.{lasts-none, lasts-some}
use Rattle.closing.proofs.ending.reach_end.Goals as goal

pub returns-then-last-eq0 : goal.returns-then-last-eq0
returns-then-last-eq0 c = lasts-none _ _ c.requires.finds _ c.settle-last.ensures c.if-last-eq0.true

pub returns : goal.returns
returns c =
    lasts-some _ _ c.requires.finds _ c.settle-last.ensures c.if-last-eq0.false _ c.more-number.ensures _ c.line.ensures _ c.foresee-after.ensures
