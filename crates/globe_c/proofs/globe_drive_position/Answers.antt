-- `globe_drive_position` meets its contract: the answer of the drive's call, shown. Assumes nothing.
use Rattle.globe_c.proofs.globe_drive_position.Goals as goal

pub returns : goal.returns
returns c = record { placed = c.position.result; places = c.position.ensures; shown = c.position_face.ensures }
