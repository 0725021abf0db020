-- A name that is spelled is no longer than a name may be. Assumes nothing.
use mathlib.Core.Bool.{Bool, true, false}
use mathlib.Core.List.{[], ◌∷◌}
use Prim.Native.Nat.{ℕ, ◌/◌, ◌%◌, ◌≤◌}
use native.Mathlib.Omega.{arith}
use lib.Dec.{ltb}
use lib.ListN.{length, length-append}
use Rattle.std.specs.Prelude.{if◌then◌else◌}
use Rattle.statement.specs.Head.{NAME}
use Rattle.wanted.specs.Names.{SUFFIX, FIGURES, figure, numeral, suffix, name_of}
use Rattle.wanted.specs.declared.name.Wanted.{Wanted}
use Rattle.wanted.specs.declared.name.Wanted.TheVariants as W

pub numeral-length : (n : ℕ) → length (numeral n) ≤ FIGURES
numeral-length n = few (ltb n 10) (ltb n 100)
  where
    few : (a b : Bool)
        → length (if a then figure n ∷ []
        else (if b then figure (n / 10) ∷ figure (n % 10) ∷ [] else (figure (n / 100) ∷ figure (n / 10 % 10) ∷ figure (n % 10) ∷ []))) ≤ FIGURES
    few true b = omega arith
    few false true = omega arith
    few false false = omega arith

suffix-length : (wanted : Wanted) → length (suffix wanted) ≤ SUFFIX
suffix-length W.PoleRa = omega arith
suffix-length W.PoleDec = omega arith
suffix-length W.Pm = omega arith
suffix-length W.NutPrecRa = omega arith
suffix-length W.NutPrecDec = omega arith
suffix-length W.NutPrecPm = omega arith
suffix-length W.NutPrecAngles = omega arith
suffix-length W.MaxPhaseDegree = omega arith
suffix-length W.Radii = omega arith

pub name-length : (n : ℕ) (wanted : Wanted) → length (name_of n wanted) ≤ NAME
unfolding name_of
name-length n wanted =
    omega (arith, numeral-length n, suffix-length wanted, length-append (numeral n) (suffix wanted))
