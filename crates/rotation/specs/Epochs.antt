-- "D = epoch / 86400 and T = D / 36525: D counts days and T counts Julian centuries, and a rate per day never meets T."
-- Definitions only.
use Rattle.std.specs.Prelude.{Bool, ◌&&◌, Float}
use Rattle.std.specs.Float.Ieee.{le, neg}
use Rattle.plain.specs.Doubles.{◌⊘◌, printed}
use Rattle.rotation.specs.declared.epoch.Days.{Days}
use Rattle.rotation.specs.declared.epoch.Centuries.{Centuries}

unfoldable pub days : Float → Days
days epoch = record { 0 = epoch ⊘ printed 86400 0 }

unfoldable pub centuries : Days → Centuries
centuries d = record { 0 = d.0 ⊘ printed 36525 0 }

-- the farthest epoch, in seconds
abbrev pub farthest : Float
farthest = printed 157788000000 0

-- all but EPOCH: "not finite, or beyond ±157,788,000,000 s"; no comparison holds of a NaN
unfoldable pub in_reach : Float → Bool
in_reach epoch = le (neg farthest) epoch && le epoch farthest
