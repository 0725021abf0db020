-- `write_text` meets its contract: what is left to write onto this page is what was to be written onto the first. Assumes nothing.
use native.Mathlib.Omega.{arith}
use Rattle.writing.proofs.Passes.{at_first, roomy, one_more, at_last}
use Rattle.writing.proofs.write.write_text.Goals as goal

pub loop-at-init : goal.loop-at-init
loop-at-init c = at_first _ _ _ c.requires

pub slice_bounds-write_line-count : goal.slice_bounds-write_line-count
slice_bounds-write_line-count c = omega (arith, c.cut_line-cut.ensures.starts)

pub slice_bounds-write_line-start : goal.slice_bounds-write_line-start
slice_bounds-write_line-start c = omega (arith, c.cut_line-cut.ensures.starts)

pub slice_bounds-write_line-end : goal.slice_bounds-write_line-end
slice_bounds-write_line-end c = omega (arith, c.cut_line-cut.ensures.ends, c.cut_line-cut.ensures.stays)

pub write_line-turn-requires : goal.write_line-turn-requires
write_line-turn-requires c =
    roomy _ _ _ _ _ _ c.loop-at.invariant _ c.cut_line-cut.ensures c.requires.long

pub loop-at-smaller : goal.loop-at-smaller
loop-at-smaller c =
    omega (arith, c.cut_line-cut.ensures.starts, c.cut_line-cut.ensures.ends, c.loop-at-test.true)

pub loop-at-preserved : goal.loop-at-preserved
loop-at-preserved c =
    one_more _ _ _ _ _ _ c.loop-at.invariant _ c.cut_line-cut.ensures _ _ c.write_line-turn.ensures

pub returns : goal.returns
returns c = at_last _ _ _ _ _ _ c.loop-at.invariant c.loop-at-test.false
