-- "Each reading of a value is either a number in the class or a refusal". Document 02, K4: "w up to 19 significant digits after leading zeros, k from
-- −22 to 22. The value is the double nearest to the exact w·10^k, ties to the even significand", then "negated for a minus". Definitions only.
use Rattle.std.specs.Prelude.{ℕ, suc, ◌*◌, ◌^◌, Bool, false, ◌&&◌, List, ltb, leb, ℤ, pos, negsuc, nat_abs, Float, if◌then◌else◌}
use Rattle.std.specs.Float.{binary64}
use Rattle.std.specs.Float.Ieee.{neg, round}
use Rattle.refusal.specs.declared.Refusal.TheVariants as R
use Rattle.rounding.specs.Exact.{STEEPEST}
use Rattle.decimal.specs.Form.{Written, number, broken, written}
use Rattle.decimal.specs.declared.Reading.{Reading}
use Rattle.decimal.specs.declared.Reading.TheVariants.{Number, BadForm, OutsideClass}

-- the first w past the class: 10^19, the least with 20 digits
abbrev pub FAR : ℕ
FAR = 10000000000000000000

abbrev pub in_class : (w : ℕ) (k : ℤ) → Bool
in_class w k = ltb w FAR && leb (nat_abs k) STEEPEST

-- the exact w·10^k as a fraction
abbrev pub top : (w : ℕ) (k : ℤ) → ℕ
top w (pos k) = w * 10 ^ k
top w (negsuc k) = w

abbrev pub bottom : (k : ℤ) → ℕ
bottom (pos k) = 1
bottom (negsuc k) = 10 ^ suc k

-- the double nearest to w·10^k: the fraction, rounded once
abbrev pub scaled_by : (w : ℕ) (k : ℤ) → Float
scaled_by w k = round binary64 false (top w k) (bottom k)

-- negated for a minus
abbrev pub signed : (minus : Bool) → Float → Float
signed m x = if m then neg x else x

-- "form right, outside the class" is "6 NUMBER"; a broken form is "19 BAD VALUE"
abbrev pub valued : Written → Reading
valued (number m w k) = if in_class w k then Number (signed m (scaled_by w k)) else OutsideClass R.Number
valued broken = BadForm R.BadValue

unfoldable pub reading : List ℕ → Reading
unfolding written
reading bs = valued (written bs)
