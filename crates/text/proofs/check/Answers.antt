-- `check` meets its contract: the counts of the lines passed and what is left to read make the whole text's answer. Assumes nothing.
use native.Mathlib.Omega.{arith}
use mathlib.Core.Path.{◌∙◌}
use Rattle.text.proofs.Tallies.{at_first, turn, turn-off, closed, end-admits, end-refuses}
use Rattle.text.proofs.check.Goals as goal

pub loop-at-init : goal.loop-at-init
loop-at-init c = at_first _

pub slice_bounds-line_step-count : goal.slice_bounds-line_step-count
slice_bounds-line_step-count c = omega (arith, c.cut_line-cut.ensures.starts)

pub slice_bounds-line_step-start : goal.slice_bounds-line_step-start
slice_bounds-line_step-start c = omega (arith, c.cut_line-cut.ensures.starts)

pub slice_bounds-line_step-end : goal.slice_bounds-line_step-end
slice_bounds-line_step-end c = omega (arith, c.cut_line-cut.ensures.ends, c.cut_line-cut.ensures.stays)

pub overflow_add-number : goal.overflow_add-number
overflow_add-number c =
    let a = c.loop-at.invariant in
    omega arith

pub returns-in_default : goal.returns-in_default
returns-in_default c =
    c.refused.ensures _ c.in_default.is ∙ turn-off _ _ _ c.cut_line-cut.ensures _ _ _ _ _ _ _ c.line_step-answer.ensures _ c.in_default.is ∙ c.loop-at.invariant.left

pub overflow_sub-long : goal.overflow_sub-long
overflow_sub-long c = omega (arith, c.cut_line-cut.ensures.starts)

pub overflow_add-number-in-loop-at : goal.overflow_add-number-in-loop-at
overflow_add-number-in-loop-at c = omega (arith, c.loop-at.invariant.counts)

pub overflow_add-statements : goal.overflow_add-statements
overflow_add-statements c =
    let f = turn _ _ _ _ _ _ _ _ c.loop-at.invariant _ c.cut_line-cut.ensures _ c.line_step-answer.ensures _ c.in-Ok.is in
    omega (arith, f.opens, f.counts, f.stays)

pub overflow_add-values : goal.overflow_add-values
overflow_add-values c =
    let f = turn _ _ _ _ _ _ _ _ c.loop-at.invariant _ c.cut_line-cut.ensures _ c.line_step-answer.ensures _ c.in-Ok.is in
    omega (arith, f.gives, f.stays)

pub overflow_add-bytes : goal.overflow_add-bytes
overflow_add-bytes c =
    let f = turn _ _ _ _ _ _ _ _ c.loop-at.invariant _ c.cut_line-cut.ensures _ c.line_step-answer.ensures _ c.in-Ok.is in
    omega (arith, f.spells, f.stays)

pub loop-at-smaller : goal.loop-at-smaller
loop-at-smaller c =
    omega (arith, c.cut_line-cut.ensures.starts, c.cut_line-cut.ensures.ends, c.loop-at-test.true)

pub loop-at-preserved : goal.loop-at-preserved
loop-at-preserved c =
    turn _ _ _ _ _ _ _ _ c.loop-at.invariant _ c.cut_line-cut.ensures _ c.line_step-answer.ensures _ c.in-Ok.is

pub returns-in-List : goal.returns-in-List
returns-in-List c =
    let a = c.loop-at in
    end-refuses _ a.at _ a.number a.long _ _ _ c.loop-at-test.false (rw c.in-List.is) ∙ a.invariant.left

pub returns : goal.returns
returns c =
    let a = c.loop-at in
    end-admits _ a.at _ a.number a.long _ _ _ c.loop-at-test.false (closed a.reader a.number a.long c.in_default-reader.not-List) ∙ a.invariant.left
