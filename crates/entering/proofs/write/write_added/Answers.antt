-- `write_added` meets its contract: what is written with the pen, and the place held behind it, is what the line adds, laid. Assumes nothing.
use Rattle.entering.proofs.Lines.{ordered}
use Rattle.entering.proofs.Adding.{found, writable, can-place, lays-place, lays-some}
use Rattle.entering.proofs.write.write_added.Goals as goal

pub pen_at-pen-requires : goal.pen_at-pen-requires
pen_at-pen-requires c = found _ _ _ _ _ c.requires

-- what stands behind what is held is as long as the array
pub unreachable-requires : goal.unreachable-requires
unreachable-requires c =
    (rw c.in_default.is at c.as_mut_array.ensures.cases) (ordered _ _ c.requires.ready).sizes.words

pub write_line-turn-requires : goal.write_line-turn-requires
write_line-turn-requires c =
    writable _ _ _ _ _ c.requires _ c.pen_at-pen.ensures

pub hold_place-requires : goal.hold_place-requires
hold_place-requires c =
    let s = (rw c.in-Some.is at c.as_mut_array.ensures.cases).same in
    can-place _ _ _ _ _ c.requires _ c.pen_at-pen.ensures _ _ (rw s at c.write_line-turn.ensures) c.if-given-eq0.true

pub returns-then-given-eq0 : goal.returns-then-given-eq0
returns-then-given-eq0 c =
    let s = (rw c.in-Some.is at c.as_mut_array.ensures.cases).same in
    lays-place _ _ _ _ _ c.requires _ c.pen_at-pen.ensures _ _ (rw s at c.write_line-turn.ensures) c.if-given-eq0.true _ c.hold_place.ensures

pub returns-else-given-eq0 : goal.returns-else-given-eq0
returns-else-given-eq0 c =
    let s = (rw c.in-Some.is at c.as_mut_array.ensures.cases).same in
    lays-some _ _ _ _ _ c.requires _ c.pen_at-pen.ensures _ _ (rw s at c.write_line-turn.ensures) c.if-given-eq0.false
