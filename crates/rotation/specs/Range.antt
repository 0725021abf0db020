-- "RA and W are answered wrapped, DEC as it stands." Definitions only.
use Rattle.angle.specs.Range.{InTurn}
use Rattle.rotation.specs.declared.matrix.Orientation.{Orientation}

-- right ascension and meridian are at least 0 and below 360
pub record InRange (o : Orientation) : Type 0 where
  pub ra : InTurn o.ra
  pub w : InTurn o.w
