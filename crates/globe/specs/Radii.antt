-- "BODYn_RADII absent: 10; not three values: 12.", and 16 for a string in it just before 12. "Radii from the pool must each be greater than 0 as
-- doubles. Refusals: 24 BAD RADIUS, for radii only, stands after 12." The call for radii. Definitions only.
use Rattle.std.specs.Prelude.{ℕ, ◌≡◌, Bool, ◌&&◌, List, eqb, Float, length, get_or, if◌then◌else◌, Option, Some, None, Result, Ok, Err}
use Rattle.std.specs.Float.{nan}
use Rattle.std.specs.Float.Ieee.{lt}
use Rattle.plain.specs.Doubles.{nought}
use Rattle.refusal.specs.declared.Refusal.{Refusal}
use Rattle.refusal.specs.declared.Refusal.TheVariants.{UnknownBody, MixedKind, WrongCount, DamagedPool, BadRadius}
use Rattle.rotation.specs.Codes.{system_of}
use Rattle.rotation.specs.Builtin.{builtin_radii}
use Rattle.rotation.specs.declared.table.Axes.{Axes}
use Rattle.layout.specs.State.{Pool}
use Rattle.layout.specs.Memory.{decode}
use Rattle.layout.specs.Damage.{sound}
use Rattle.wanted.specs.Elements.{there, numeric, list}
use Rattle.wanted.specs.declared.name.Wanted.TheVariants as W
use Rattle.globe.specs.declared.source.Source.{Source}
use Rattle.globe.specs.declared.source.Source.TheVariants as S

abbrev pub axes : List Float → Axes
axes xs = record { a = get_or xs 0 nan; b = get_or xs 1 nan; c = get_or xs 2 nan }

-- "greater than 0 as doubles": −0 is not
abbrev pub positive : Float → Bool
positive x = lt nought x

abbrev pub all_positive : Axes → Bool
all_positive x = positive x.a && positive x.b && positive x.c

-- three values
abbrev pub admitted : Axes → Result Axes Refusal
admitted x = if all_positive x then Ok x else Err BadRadius

-- by whether the variable is there and of numbers, and its values
abbrev pub measured : (there numeric : Bool) → List Float → Result Axes Refusal
measured there numeric xs =
    if there
    then (if numeric then (if eqb (length xs) 3 then admitted (axes xs) else Err WrongCount) else Err MixedKind)
    else Err UnknownBody

-- of a body of a known system
abbrev pub radii_of : Pool → (n : ℕ) → Result Axes Refusal
radii_of s n = measured (there s n W.Radii) (numeric s n W.Radii) (list s n W.Radii)

abbrev pub by_system : Pool → (n : ℕ) → Option ℕ → Result Axes Refusal
by_system s n None = Err UnknownBody
by_system s n (Some k) = radii_of s n

unfoldable pub radii_from : Pool → (n : ℕ) → Result Axes Refusal
radii_from s n = by_system s n (system_of n)

unfoldable pub radii_reply : Source → (m : List ℕ) → (n : ℕ) → Result Axes Refusal
unfolding radii_from
radii_reply S.Builtin m n = builtin_radii n
radii_reply S.Pool m n = if sound m then radii_from (decode m) n else Err DamagedPool

-- the whole contract
pub record Measures (source : Source) (memory : List ℕ) (n : ℕ) (r : Result Axes Refusal) : Type 0 where
  pub reply : r ≡ radii_reply source memory n
