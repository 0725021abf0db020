-- `cut_line` meets its contract: each way out is one way in which a line may end. Assumes nothing.
use native.Mathlib.Omega.{arith}
use Rattle.text.proofs.LineEnds.{ends-within, cut-last, cut-empty, cut-CR, cut-LF}
use Rattle.text.proofs.lines.cut_line.Goals as goal

pub overflow_add-next : goal.overflow_add-next
overflow_add-next c = omega (arith, ends-within _ _ _ c.requires c.past-end.ensures)

pub returns-then-text-end-eq13 : goal.returns-then-text-end-eq13
returns-then-text-end-eq13 c =
    cut-CR _ _ _ c.requires c.past-end.ensures c.if-end-text.true c.if-at-end.true c.if-text-end-eq13.true

pub returns-else-text-end-eq13 : goal.returns-else-text-end-eq13
returns-else-text-end-eq13 c =
    cut-LF _ _ _ c.requires c.past-end.ensures c.if-end-text.true c.if-at-end.true c.if-text-end-eq13.false

pub returns-else-at-end : goal.returns-else-at-end
returns-else-at-end c =
    cut-empty _ _ _ c.requires c.past-end.ensures c.if-end-text.true c.if-at-end.false

pub returns-else-end-text : goal.returns-else-end-text
returns-else-end-text c = cut-last _ _ _ c.requires c.past-end.ensures c.if-end-text.false
