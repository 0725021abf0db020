-- "Wrap: r = x % 360 (sign of x); if r < 0, r + 360; if the result is not at least 0 and below 360, it is 0; a zero is +0."
-- Definitions only.
use Rattle.std.specs.Prelude.{Bool, ◌&&◌, Float, if◌then◌else◌}
use Rattle.std.specs.Float.Ieee.{lt, le, eq}
use Rattle.plain.specs.Doubles.{◌⊕◌, remainder, printed, nought}

-- 360
abbrev pub turn : Float
turn = printed 360 0

-- at least 0 and below 360
abbrev pub in_turn : Float → Bool
in_turn r = le nought r && lt r turn

-- "a zero is +0"
abbrev pub plus_zero : Float → Float
plus_zero r = if eq r nought then nought else r

-- "if the result is not at least 0 and below 360, it is 0"
unfoldable pub kept : Float → Float
kept r = if in_turn r then plus_zero r else nought

-- "if r < 0, r + 360"
abbrev pub lifted : Float → Float
lifted r = if lt r nought then r ⊕ turn else r

unfoldable pub wrapped : Float → Float
unfolding kept
wrapped x = kept (lifted (remainder x turn))
