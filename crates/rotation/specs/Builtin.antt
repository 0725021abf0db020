-- What the built-in source answers: by its table, and 9 before 10. Definitions only.
use Rattle.std.specs.Prelude.{ℕ, List, [], eqb, Float, Option, Some, None, Result, Ok, Err, if◌then◌else◌}
use Rattle.refusal.specs.declared.Refusal.TheVariants as R
use Rattle.rotation.specs.Epochs.{in_reach}
use Rattle.rotation.specs.Elements.{LINEAR}
use Rattle.rotation.specs.Evaluation.{evaluated}
use Rattle.rotation.specs.Codes.{system_of}
use Rattle.rotation.specs.Table.{row_of, neptune_angle, neptune_ra, neptune_dec, neptune_pm, size_of}
use Rattle.refusal.specs.declared.Refusal.{Refusal}
use Rattle.rotation.specs.declared.elements.Elements.{Elements}
use Rattle.rotation.specs.declared.matrix.Orientation.{Orientation}
use Rattle.rotation.specs.declared.table.Axes.{Axes}

-- a list that Neptune has, and the others have empty
abbrev pub neptunes : ℕ → List Float → List Float
neptunes n xs = if eqb n 899 then xs else []

-- a row at an epoch; Neptune's angle is of degree 1
unfoldable pub row_evaluated : ℕ → Elements → Float → Orientation
unfolding evaluated
row_evaluated n e epoch = evaluated e epoch LINEAR (neptunes n neptune_angle) (neptunes n neptune_ra) (neptunes n neptune_dec) (neptunes n neptune_pm)

abbrev pub by_row : ℕ → Float → Option Elements → Result Orientation Refusal
by_row n epoch (Some e) = Ok (row_evaluated n e epoch)
by_row n epoch None = Err R.UnknownBody

-- "Codes are 1 to 10 and 100 to 999; others are UNKNOWN BODY"
abbrev pub by_system : ℕ → Float → Option ℕ → Result Orientation Refusal
by_system n epoch (Some s) = by_row n epoch (row_of n)
by_system n epoch None = Err R.UnknownBody

unfoldable pub builtin_orientation : (n : ℕ) (epoch : Float) → Result Orientation Refusal
unfolding row_of row_evaluated in_reach system_of
builtin_orientation n epoch = if in_reach epoch then by_system n epoch (system_of n) else Err R.Epoch

abbrev pub by_size : Option Axes → Result Axes Refusal
by_size (Some x) = Ok x
by_size None = Err R.UnknownBody

unfoldable pub builtin_radii : (n : ℕ) → Result Axes Refusal
unfolding size_of
builtin_radii n = by_size (size_of n)
