-- `globe_drive_move` meets its contract: the answer of the drive's call, shown. Assumes nothing.
use Rattle.globe_c.proofs.globe_drive_move.Goals as goal

pub returns : goal.returns
returns c = record { moved = c.step.result; steps = c.step.ensures; shown = c.motion_face.ensures }
