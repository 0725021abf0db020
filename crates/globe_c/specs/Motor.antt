-- The drive's two answers as C structures: position, target and move are 0 where a call is refused, and no line is told. Definitions only.
use Rattle.std.specs.Prelude.{ℕ, ◌≡◌, List, Float, Result}
use Rattle.globe.specs.declared.source.Source.{Source}
use Rattle.drive.specs.declared.answer.Motion.{Motion}
use Rattle.drive.specs.Calls.{Places, Steps}
use Rattle.drive.specs.Replies.{placed_number, placed_position, moved_number, moved_target, moved_move}
use Rattle.globe_c.specs.declared.motor.GlobePosition.{GlobePosition}
use Rattle.refusal.specs.declared.Refusal.{Refusal}
use Rattle.globe_c.specs.declared.motor.GlobeMotion.{GlobeMotion}

abbrev pub position_face : Result ℕ Refusal → GlobePosition
position_face r = record { number = placed_number r; line = 0; column = 0; position = placed_position r }

abbrev pub motion_face : Result Motion Refusal → GlobeMotion
motion_face r = record { number = moved_number r; line = 0; column = 0; target = moved_target r; way = moved_move r }

-- the whole contract of a call for a position: the drive's answer, shown
pub record ShowsPosition (source : Source) (memory : List ℕ) (body : ℕ) (epoch : Float) (ring : ℕ) (r : GlobePosition) : Type 0 where
  pub placed : Result ℕ Refusal
  pub places : Places source memory body epoch ring placed
  pub shown : r ≡ position_face placed

-- the whole contract of a call for a move
pub record ShowsMotion (source : Source) (memory : List ℕ) (body : ℕ) (epoch : Float) (ring present : ℕ) (r : GlobeMotion) : Type 0 where
  pub moved : Result Motion Refusal
  pub steps : Steps source memory body epoch ring present moved
  pub shown : r ≡ motion_face moved
