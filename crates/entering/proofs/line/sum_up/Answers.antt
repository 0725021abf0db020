-- `sum_up` meets its contract: the sums are of the statements with what the line adds, which are stored where these fit. Assumes nothing.
use native.Mathlib.Omega.{arith}
use Rattle.entering.proofs.Adding.{countable, framed, few, overflowing, storing, nothing-added, to_write}
use Rattle.entering.proofs.line.sum_up.Goals as goal
use Rattle.entering.proofs.line.sum_up.Goals.{else-step-eq0-via-then-step-eq0+else-step-eq0-2, else-step-eq0-via-else-step-eq0}

pub grown-sums-requires : goal.grown-sums-requires
grown-sums-requires c = countable _ _ _ _ _ _ c.requires.2 _ _ c.requires.0 c.requires.1

pub has_room-requires : goal.has_room-requires
has_room-requires c =
    (framed _ _ _ _ _ _ c.requires.2 _ _ c.requires.0 c.requires.1, few _ _ _ _ _ _ c.requires.2 _ _ c.requires.0 c.requires.1 _ c.grown-sums.ensures)

pub returns-then-not-has_room : goal.returns-then-not-has_room
returns-then-not-has_room c =
    overflowing _ _ _ _ _ _ c.requires.2 _ _ c.requires.0 c.requires.1 _ c.grown-sums.ensures _ _ c.has_room.ensures c.if-not-has_room.true c.emptied.ensures

pub returns-then-step-eq0-2 : goal.returns-then-step-eq0-2
returns-then-step-eq0-2 c =
    let g = c.grown-sums.ensures in
    storing _ _ _ _ _ _ c.requires.2 _ _ c.requires.0 c.requires.1 _ g _ c.has_room.ensures c.if-not-has_room.false _
    (nothing-added _ _ _ _ _ _ c.requires.2 _ _ c.requires.0 c.requires.1 _ g c.if-step-eq0.true c.if-step-eq0-2.true)

pub returns : goal.returns
returns c =
    to_write _ _ _ _ _ _ c.requires.2 _ _ c.requires.0 c.requires.1 _ c.grown-sums.ensures _ c.has_room.ensures c.if-not-has_room.false
    (elim c.else-step-eq0.branch [ else-step-eq0-via-then-step-eq0+else-step-eq0-2 w ↦ omega arith | else-step-eq0-via-else-step-eq0 w ↦ omega arith ])
