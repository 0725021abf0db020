-- What is claimed of every wrapped angle: its range. Definitions only.
use Rattle.std.specs.Prelude.{◌≡◌, true, Float}
use Rattle.std.specs.Float.Ieee.{lt, le, eq}
use Rattle.plain.specs.Doubles.{nought}
use Rattle.angle.specs.Wrap.{turn}

-- at least 0 and below 360, and never −0: a zero is +0
pub record InTurn (x : Float) : Type 0 where
  pub low : le nought x ≡ true
  pub high : lt x turn ≡ true
  pub zero : eq x nought ≡ true → x ≡ nought
