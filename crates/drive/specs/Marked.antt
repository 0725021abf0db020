-- Two cases that decide how the sentence is read: on a ring of 35 the product of 21 is above 216, which is its true multiple; on a ring of 39
-- the product of 39 is not above the last double before 360, and only "below N" gives 38. Definitions only.
use Rattle.std.specs.Prelude.{◌≡◌, true, false, Float}
use Rattle.std.specs.Float.{binary64}
use Rattle.std.specs.Float.Ieee.{of_bits}
use Rattle.drive.specs.Ring.{double, reached, Position}

-- the last double before 360
abbrev pub LAST : Float
LAST = of_bits binary64 4645040803167600639

pub record Marked : Type 0 where
  pub multiple : Position 35 (double 216) 20
  pub above : reached 35 (double 216) 21 ≡ false
  pub last : Position 39 LAST 38
  pub past : reached 39 LAST 39 ≡ true
