-- "All doubles, printed constants the nearest ones, every operation rounded once, in this order." The whole evaluation. Definitions only.
use Rattle.std.specs.Prelude.{ℕ, List, Float}
use Rattle.rotation.specs.Epochs.{days, centuries}
use Rattle.rotation.specs.Elements.{by_century, by_day, nutated_all}
use Rattle.rotation.specs.Matrix.{oriented}
use Rattle.rotation.specs.declared.epoch.Days.{Days}
use Rattle.rotation.specs.declared.epoch.Centuries.{Centuries}
use Rattle.rotation.specs.declared.elements.Elements.{Elements}
use Rattle.rotation.specs.declared.nutation.Sums.{Sums}
use Rattle.rotation.specs.declared.matrix.Orientation.{Orientation}

-- RA, DEC and W as they start
abbrev pub starts : Elements → Days → Centuries → Sums
starts e d t = record { ra = by_century e.ra t; dec = by_century e.dec t; w = by_day e.pm d }

-- RA, DEC and W at an epoch, before any is wrapped, with the system's angles of a degree and the coefficients that RA, DEC and PM have
abbrev pub unwrapped : Elements → (epoch : Float) → (degree : ℕ) → (angles ra dec pm : List Float) → Sums
unwrapped e epoch degree angles ra dec pm =
    let d = days epoch in
    let t = centuries d in
    nutated_all t degree angles ra dec pm (starts e d t)

unfoldable pub evaluated : Elements → (epoch : Float) → (degree : ℕ) → (angles ra dec pm : List Float) → Orientation
unfolding days centuries nutated_all oriented
evaluated e epoch degree angles ra dec pm =
    let sums = unwrapped e epoch degree angles ra dec pm in
    oriented sums.ra sums.dec sums.w
