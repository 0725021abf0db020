-- "Later texts announce the degree in BODYs_MAX_PHASE_DEGREE. Read it: absent means 1; otherwise one value, 1, 2 or 3. .. 23 BAD DEGREE, for
-- any other value or count or a string .. It is looked at only where nutation coefficients are present." Definitions only.
use Rattle.std.specs.Prelude.{ℕ, zero, suc, ◌≤◌, ◌≡◌, Bool, true, false, List, eqb, Float, length, get_or, if◌then◌else◌, Option, Some, None}
use Rattle.std.specs.Float.{nan}
use Rattle.std.specs.Float.Ieee.{eq}
use Rattle.plain.specs.Doubles.{printed}
use Rattle.rotation.specs.Elements.{LINEAR, CUBIC}
use Rattle.layout.specs.State.{Pool}
use Rattle.wanted.specs.Elements.{there, numeric, list, nutating}
use Rattle.wanted.specs.declared.name.Wanted.TheVariants as W

-- the whole number from 1 up to the highest that a value equals as a double
unfoldable pub announced : (highest : ℕ) → Float → Option ℕ
unfolding printed eq
announced zero x = None
announced (suc d) x = if eq x (printed (suc d) 0) then Some (suc d) else announced d x

abbrev pub degree_of : (there numeric : Bool) → List Float → Option ℕ
degree_of true true xs = if eqb (length xs) 1 then announced CUBIC (get_or xs 0 nan) else None
degree_of true false xs = None
degree_of false numeric xs = Some LINEAR

-- of the angles of system k
abbrev pub system_degree : Pool → (k : ℕ) → Option ℕ
system_degree s k = degree_of (there s k W.MaxPhaseDegree) (numeric s k W.MaxPhaseDegree) (list s k W.MaxPhaseDegree)

unfoldable pub degree_where : (wanted : Bool) → Pool → (k : ℕ) → Option ℕ
unfolding announced
degree_where wanted s k = if wanted then system_degree s k else Some LINEAR

-- of a body n of system k
abbrev pub degree : Pool → (n k : ℕ) → Option ℕ
degree s n k = degree_where (nutating s n) s k

-- a degree, if it is one, is no higher than the highest
pub record Low (degree : Option ℕ) : Type 0 where
  pub cubic : (d : ℕ) → degree ≡ Some d → d ≤ CUBIC
