-- `by_room` meets its contract: each answer is one of its cases. Assumes nothing.
use Rattle.closing.proofs.ending.by_room.Goals as goal

pub returns : goal.returns
returns c = simp (c.if-fits.false, c.into.ensures)
