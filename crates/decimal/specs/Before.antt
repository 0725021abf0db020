-- The class and its values before document 02's K4: "w at most 9,007,199,254,740,992", and "w as a double, times 10^k once if k ≥ 0, else divided by
-- 10^−k once". Definitions only.
use Rattle.std.specs.Prelude.{ℕ, suc, ◌^◌, Bool, ◌&&◌, leb, ℤ, pos, negsuc, nat_abs, Float}
use Rattle.plain.specs.Doubles.{◌⊗◌, ◌⊘◌}
use Rattle.rounding.specs.Exact.{LARGEST, STEEPEST, double}

abbrev pub in_class_before : (w : ℕ) (k : ℤ) → Bool
in_class_before w k = leb w LARGEST && leb (nat_abs k) STEEPEST

abbrev pub scaled_before : (w : ℕ) (k : ℤ) → Float
scaled_before w (pos k) = double w ⊗ double (10 ^ k)
scaled_before w (negsuc k) = double w ⊘ double (10 ^ suc k)
