-- "Order: 15 first; .. 9, 10, 11, 12. Fifteen is not checked where the built-in source is named." "16 MIXED KIND .. stands just before 12";
-- "23 BAD DEGREE .. stands after 11 and before 16". The call for an orientation. Definitions only.
use Rattle.std.specs.Prelude.{ℕ, ◌≡◌, List, Float, if◌then◌else◌, Option, Some, None, Result, Ok, Err}
use Rattle.refusal.specs.declared.Refusal.{Refusal}
use Rattle.refusal.specs.declared.Refusal.TheVariants.{Epoch, UnknownBody, Incomplete, BadDegree, MixedKind, WrongCount, DamagedPool}
use Rattle.rotation.specs.Epochs.{in_reach}
use Rattle.rotation.specs.Codes.{system_of}
use Rattle.rotation.specs.Evaluation.{evaluated}
use Rattle.rotation.specs.Builtin.{builtin_orientation}
use Rattle.rotation.specs.declared.matrix.Orientation.{Orientation}
use Rattle.layout.specs.State.{Pool}
use Rattle.layout.specs.Memory.{decode}
use Rattle.layout.specs.Damage.{sound}
use Rattle.wanted.specs.Elements.{none_there, complete, all_numeric, well_counted, elements, angles, list}
use Rattle.wanted.specs.declared.name.Wanted.TheVariants as W
use Rattle.degree.specs.Degree.{degree}
use Rattle.globe.specs.declared.source.Source.{Source}
use Rattle.globe.specs.declared.source.Source.TheVariants as S

-- by the elements of a body, which are all there, and the degree of its system's angles
abbrev pub by_degree : Pool → (n k : ℕ) → (epoch : Float) → Option ℕ → Result Orientation Refusal
by_degree s n k epoch (Some d) =
    if all_numeric s n k
    then (if well_counted s n k d
    then Ok (evaluated (elements s n) epoch d (angles s n k) (list s n W.NutPrecRa) (list s n W.NutPrecDec) (list s n W.NutPrecPm))
    else Err WrongCount)
    else Err MixedKind
by_degree s n k epoch None = Err BadDegree

-- by the elements of a body of a known system
abbrev pub by_elements : Pool → (n : ℕ) → (epoch : Float) → Option ℕ → Result Orientation Refusal
by_elements s n epoch None = Err UnknownBody
by_elements s n epoch (Some k) =
    if none_there s n then Err UnknownBody
    else (if complete s n k then by_degree s n k epoch (degree s n k) else Err Incomplete)

-- from the texts of an undamaged pool
unfoldable pub orientation_from : Pool → (n : ℕ) → (epoch : Float) → Result Orientation Refusal
orientation_from s n epoch = if in_reach epoch then by_elements s n epoch (system_of n) else Err Epoch

unfoldable pub orientation_reply : Source → (m : List ℕ) → (n : ℕ) → (epoch : Float) → Result Orientation Refusal
unfolding orientation_from
orientation_reply S.Builtin m n epoch = builtin_orientation n epoch
orientation_reply S.Pool m n epoch = if sound m then orientation_from (decode m) n epoch else Err DamagedPool

-- the whole contract
pub record Orients (source : Source) (memory : List ℕ) (n : ℕ) (epoch : Float) (r : Result Orientation Refusal) : Type 0 where
  pub reply : r ≡ orientation_reply source memory n epoch
