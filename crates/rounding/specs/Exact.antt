-- The whole numbers and the powers of ten that are doubles. Definitions only.
use Rattle.std.specs.Prelude.{ℕ, pos, Float}
use Rattle.std.specs.Float.{binary64}
use Rattle.std.specs.Float.Ieee.{of_int}

-- 2^53, up to which every whole number is a double
abbrev pub LARGEST : ℕ
LARGEST = 9007199254740992

-- the largest size of k: up to it every power of ten is a double
abbrev pub STEEPEST : ℕ
STEEPEST = 22

-- a whole number as a double
abbrev pub double : ℕ → Float
double w = of_int binary64 (pos w)
