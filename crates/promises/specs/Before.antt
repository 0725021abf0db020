-- The answer to an orientation as it was before document 02's K8, when no degree was read: "it has an even count of at most 64, and at least
-- twice the longest of the three; otherwise 12." Definitions only: with it a theorem can say what "Degree 1 gives the bits it gave before" says,
-- refusals too.
use Rattle.std.specs.Prelude.{ℕ, ◌*◌, ◌%◌, max, ◌≡◌, Bool, true, false, ◌&&◌, List, leb, eqb, Float, length, if◌then◌else◌, Option, Some, None, Result, Ok, Err}
use Rattle.refusal.specs.declared.Refusal.{Refusal}
use Rattle.refusal.specs.declared.Refusal.TheVariants.{Epoch, UnknownBody, Incomplete, MixedKind, WrongCount}
use Rattle.rotation.specs.declared.matrix.Orientation.{Orientation}
use Rattle.rotation.specs.Epochs.{in_reach}
use Rattle.rotation.specs.Elements.{LINEAR}
use Rattle.rotation.specs.Before.{evaluated_before}
use Rattle.rotation.specs.Codes.{system_of}
use Rattle.layout.specs.State.{Pool}
use Rattle.layout.specs.Memory.{decode}
use Rattle.layout.specs.Damage.{sound}
use Rattle.wanted.specs.Elements.{there, none_there, complete, all_numeric, few_values, nutating, elements, angles, list}
use Rattle.wanted.specs.declared.name.Wanted.TheVariants as W
use Rattle.degree.specs.Degree.{degree}
use Rattle.globe.specs.declared.source.Source.TheVariants as S
use Rattle.promises.specs.Calls.{Build, orientation, oriented}

abbrev pub even_angles : (angles ra dec pm : ℕ) → Bool
even_angles angles ra dec pm = eqb (angles % 2) 0 && leb angles 64 && leb (2 * max ra (max dec pm)) angles

abbrev pub well_counted_before : Pool → (n k : ℕ) → Bool
well_counted_before s n k =
    few_values (list s n W.PoleRa) && few_values (list s n W.PoleDec) && few_values (list s n W.Pm)
    && (if nutating s n
    then even_angles (length (list s k W.NutPrecAngles)) (length (list s n W.NutPrecRa)) (length (list s n W.NutPrecDec)) (length (list s n W.NutPrecPm))
    else true)

abbrev pub by_elements_before : Pool → (n : ℕ) → (epoch : Float) → Option ℕ → Result Orientation Refusal
by_elements_before s n epoch None = Err UnknownBody
by_elements_before s n epoch (Some k) =
    if none_there s n then Err UnknownBody
    else (if complete s n k
    then (if all_numeric s n k
    then (if well_counted_before s n k
    then Ok (evaluated_before (elements s n) epoch (angles s n k) (list s n W.NutPrecRa) (list s n W.NutPrecDec) (list s n W.NutPrecPm))
    else Err WrongCount)
    else Err MixedKind)
    else Err Incomplete)

unfoldable pub orientation_before : Pool → (n : ℕ) → (epoch : Float) → Result Orientation Refusal
orientation_before s n epoch = if in_reach epoch then by_elements_before s n epoch (system_of n) else Err Epoch

-- the system of a code, if it has one, announces no degree
abbrev pub unannounced : Pool → Option ℕ → Type 0
unannounced s (Some k) = there s k W.MaxPhaseDegree ≡ false
unannounced s None = Unit {0}

-- an undamaged pool answers as before where it has no degree for the body, and where the degree is 1, as announced or for want of coefficients
pub record AsBefore (b : Build) : Type 0 where
  pub absent :
      (m : List ℕ) (n : ℕ) (epoch : Float) → sound m ≡ true → unannounced (decode m) (system_of n)
      → b.answer (orientation S.Pool n epoch) m ≡ oriented (orientation_before (decode m) n epoch)
  pub linear :
      (m : List ℕ) (n k : ℕ) (epoch : Float) → sound m ≡ true → system_of n ≡ Some k → degree (decode m) n k ≡ Some LINEAR
      → b.answer (orientation S.Pool n epoch) m ≡ oriented (orientation_before (decode m) n epoch)
