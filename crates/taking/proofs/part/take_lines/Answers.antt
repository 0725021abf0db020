-- `take_lines` meets its contract: after each turn one whole line more is fed, and where no LF is left, only bytes of one line are.
-- Assumes nothing.
use native.Mathlib.Omega.{arith}
use mathlib.Core.Path.{◌∙◌}
use Rattle.plain.proofs.Places.{past_after}
use Rattle.value.specs.Classes.{line_byte}
use Rattle.taking.proofs.Lines.{unbroken-rest, reaches-line}
use Rattle.taking.proofs.part.take_lines.Goals as goal

pub slice_bounds-without_cr-count : goal.slice_bounds-without_cr-count
slice_bounds-without_cr-count c = let l = c.loop-end in omega (arith, l.invariant.2, past_after line_byte c.args.part.now l.reached.at)

pub slice_bounds-without_cr-start : goal.slice_bounds-without_cr-start
slice_bounds-without_cr-start c = let l = c.loop-end in omega (arith, l.invariant.2, past_after line_byte c.args.part.now l.reached.at)

pub loop-end-smaller : goal.loop-end-smaller
loop-end-smaller c =
    let l = c.loop-end in
    omega (arith, c.loop-end-test.true, l.invariant.2, past_after line_byte c.args.part.now l.reached.at)

pub loop-end-preserved : goal.loop-end-preserved
loop-end-preserved c =
    let l = c.loop-end in
    let s = c.args in
    let x = c.complete_line in
    let n = c.more-number in (
      reaches-line s.pool.now _ s.number s.long s.part.now l.pool l.reached l.invariant.0 l.end l.invariant.2 c.loop-end-test.true
          c.without_cr-line.result.now c.without_cr-line.ensures _ n.result x.result n.ensures x.ensures c.capped.result c.capped.ensures,
      x.auto.pool ∙ l.invariant.1,
      c.past-end-in-loop-end.ensures,
    )

pub returns : goal.returns
returns c =
    let l = c.loop-end in
    (l.invariant.0, unbroken-rest c.args.part.now l.reached.at (omega (arith, c.loop-end-test.false, l.invariant.2)) l.invariant.0.within)
