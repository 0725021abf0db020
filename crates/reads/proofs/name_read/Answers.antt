-- `name_read` meets its contract: each way out is what the room, the code's system and the question decide. Assumes nothing.
use Rattle.reads.proofs.Told.{without-room, in-room, without-system, of-orientation, of-radii}
use Rattle.reads.proofs.name_read.Goals as goal

pub returns-then-out-lt-LONGEST_NAME : goal.returns-then-out-lt-LONGEST_NAME
returns-then-out-lt-LONGEST_NAME c = let a = c.args in without-room a.asked a.code a.place c.if-out-lt-LONGEST_NAME.true

pub returns-in_default : goal.returns-in_default
returns-in_default c =
    let a = c.args in
    let s = rw c.in_default.is at c.of.ensures in
    without-system a.asked a.code a.place c.if-out-lt-LONGEST_NAME.false s

pub returns-in-Orientation : goal.returns-in-Orientation
returns-in-Orientation c =
    let a = c.args in
    let s = rw c.in-Some.is at c.of.ensures in
    rw c.in-Orientation.is
    (in-room _ a.code a.place c.if-out-lt-LONGEST_NAME.false (of-orientation a.code _ s.1 s.0) c.for_orientation.ensures)

pub returns-in-Radii : goal.returns-in-Radii
returns-in-Radii c =
    let a = c.args in
    let s = rw c.in-Some.is at c.of.ensures in
    rw c.in-Radii.is
    (in-room _ a.code a.place c.if-out-lt-LONGEST_NAME.false (of-radii a.code _ s.1 s.0) c.for_radii.ensures)
