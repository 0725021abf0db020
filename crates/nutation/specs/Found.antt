-- What was found of a body's nutation variables, and of its system's angles where one of these is there. Definitions only.
use Rattle.std.specs.Prelude.{ℕ, Bool, true, ◌||◌, List, [], Float, if◌then◌else◌, Result}
use Rattle.layout.specs.Memory.{decode}
use Rattle.variables.specs.declared.variable.FindError.{FindError}
use Rattle.wanted.specs.Elements.{there, numeric, list}
use Rattle.wanted.specs.Steps.{is_there, is_mixed, Looks}
use Rattle.wanted.specs.declared.name.Wanted.TheVariants as W

-- a system's angles; where they are not wanted, they are there and none
abbrev pub LooksForAngles : (m : List ℕ) (k : ℕ) (wanted : Bool) (before : List Float) → Result ℕ FindError → (after : List Float) → Type 0
LooksForAngles m k wanted before r after =
    Looks (if wanted then there (decode m) k W.NutPrecAngles else true) (if wanted then numeric (decode m) k W.NutPrecAngles else true)
    (if wanted then list (decode m) k W.NutPrecAngles else []) before r after

-- "If any is there"
abbrev pub any_there : (ra dec pm : Result ℕ FindError) → Bool
any_there ra dec pm = is_there ra || is_there dec || is_there pm

-- a string is in one of the four
abbrev pub any_mixed : (angles ra dec pm : Result ℕ FindError) → Bool
any_mixed angles ra dec pm = is_mixed angles || is_mixed ra || is_mixed dec || is_mixed pm
