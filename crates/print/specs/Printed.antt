-- What is printed of a double. Definitions only.
use Rattle.std.specs.Prelude.{ℕ, List, Float, codes, if◌then◌else◌}
use Rattle.std.specs.Float.{binary64}
use Rattle.std.specs.Float.Ieee.{is_nan, to_bits}
use Rattle.pen.specs.Digits.{digits}

-- its bits, in sixteen hexadecimal digits; of a NaN no bits are told
abbrev pub bits_or_nan : Float → List ℕ
bits_or_nan x = if is_nan x then codes "NAN" else digits 16 (to_bits binary64 x)
