-- What a reading that is no number carries: BAD VALUE where the form is broken, NUMBER where it is right but outside the class.
-- Assumes nothing.
use Prim.Native.Nat.{ℕ}
use mathlib.Core.Path.{◌≡◌, refl}
use mathlib.Core.Bool.{Bool, true, false}
use mathlib.Core.List.{List}
use Rattle.std.specs.Prelude.{if◌then◌else◌}
use Rattle.refusal.specs.declared.Refusal.TheVariants as R
use Rattle.decimal.specs.Form.{Written, number, broken, written}
use Rattle.decimal.specs.Class.{in_class, scaled_by, signed, valued, reading}
use Rattle.decimal.specs.declared.Reading.{Reading}
use Rattle.decimal.specs.declared.Reading.TheVariants.{Number, BadForm, OutsideClass}

abbrev pub Carries : Reading → Type 0
Carries (Number x) = Unit
Carries (BadForm r) = r ≡ R.BadValue
Carries (OutsideClass r) = r ≡ R.Number

valued-carries : (v : Written) → Carries (valued v)
valued-carries broken = refl
valued-carries (number m w k) = by (in_class w k)
  where
    by : (t : Bool) → Carries (if t then Number (signed m (scaled_by w k)) else OutsideClass R.Number)
    by true = tt
    by false = refl

pub carried : (bs : List ℕ) → Carries (reading bs)
unfolding reading
carried bs = valued-carries (written bs)
