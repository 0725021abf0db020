-- "None of the three present: 10; some missing: 11. BODYn_NUT_PREC_RA, _DEC and _PM may be absent. If any is there,
-- BODYs_NUT_PREC_ANGLES must be (else 11), s being the hundreds of n, or n itself up to 10"; "Angles then come in groups of degree plus one
-- coefficients, .. at most 32 groups. .. 12 asks whole groups and enough of them." Definitions only.
use Rattle.std.specs.Prelude.{ℕ, ◌+◌, ◌%◌, max, Bool, true, ◌&&◌, ◌||◌, not, List, [], leb, eqb, Float, length, get_or, if◌then◌else◌}
use Rattle.plain.specs.Bytes.{within}
use Rattle.plain.specs.Doubles.{nought}
use Rattle.rotation.specs.Elements.{GROUPS, groups}
use Rattle.rotation.specs.declared.elements.Polynomial.{Polynomial}
use Rattle.rotation.specs.declared.elements.Elements.{Elements}
use Rattle.layout.specs.State.{Pool}
use Rattle.variables.specs.Variables.{variable, present, all_numbers}
use Rattle.variables.specs.Found.{doubles}
use Rattle.wanted.specs.Names.{name_of}
use Rattle.wanted.specs.declared.name.Wanted.{Wanted}
use Rattle.wanted.specs.declared.name.Wanted.TheVariants as W

-- a body's variable is there, and its values
abbrev pub there : Pool → ℕ → Wanted → Bool
there s n wanted = present (name_of n wanted) s

abbrev pub list : Pool → ℕ → Wanted → List Float
list s n wanted = doubles (name_of n wanted) s

-- no string is in it
abbrev pub numeric : Pool → ℕ → Wanted → Bool
numeric s n wanted = all_numbers (variable (name_of n wanted) s)

-- ---- pole and meridian

-- "None of the three present: 10"
abbrev pub none_there : Pool → ℕ → Bool
none_there s n = not (there s n W.PoleRa || there s n W.PoleDec || there s n W.Pm)

abbrev pub all_there : Pool → ℕ → Bool
all_there s n = there s n W.PoleRa && there s n W.PoleDec && there s n W.Pm

-- "1 to 3 values each, missing ones 0"
abbrev pub few_values : List Float → Bool
few_values xs = within 1 3 (length xs)

abbrev pub polynomial : List Float → Polynomial
polynomial xs = record { c0 = get_or xs 0 nought; c1 = get_or xs 1 nought; c2 = get_or xs 2 nought }

abbrev pub elements : Pool → ℕ → Elements
elements s n =
    record { ra = polynomial (list s n W.PoleRa); dec = polynomial (list s n W.PoleDec); pm = polynomial (list s n W.Pm) }

-- ---- nutation

-- "If any is there"
abbrev pub nutating : Pool → ℕ → Bool
nutating s n = there s n W.NutPrecRa || there s n W.NutPrecDec || there s n W.NutPrecPm

-- "whole groups and enough of them", "at most 32": by the counts of the angles' values and of the coefficients
abbrev pub enough_groups : (degree angles ra dec pm : ℕ) → Bool
enough_groups degree angles ra dec pm =
    eqb (angles % (degree + 1)) 0 && leb (groups degree angles) GROUPS && leb (max ra (max dec pm)) (groups degree angles)

abbrev pub enough_angles : (degree : ℕ) (angles ra dec pm : List Float) → Bool
enough_angles degree angles ra dec pm = enough_groups degree (length angles) (length ra) (length dec) (length pm)

-- ---- what is missing, of a mixed kind or miscounted; k is the system of the code n

-- "some missing: 11 .. BODYs_NUT_PREC_ANGLES must be (else 11)"
abbrev pub complete : Pool → (n k : ℕ) → Bool
complete s n k = all_there s n && (if nutating s n then there s k W.NutPrecAngles else true)

-- "16 MIXED KIND, from any numeric query that meets a variable with a string in it": pole and meridian, those of the nutation variables that
-- are there, and the angles where one of these is
abbrev pub all_numeric : Pool → (n k : ℕ) → Bool
all_numeric s n k =
    numeric s n W.PoleRa && numeric s n W.PoleDec && numeric s n W.Pm && numeric s n W.NutPrecRa && numeric s n W.NutPrecDec
    && numeric s n W.NutPrecPm && (if nutating s n then numeric s k W.NutPrecAngles else true)

-- "otherwise 12", the angles being of a degree
abbrev pub well_counted : Pool → (n k degree : ℕ) → Bool
well_counted s n k degree =
    few_values (list s n W.PoleRa) && few_values (list s n W.PoleDec) && few_values (list s n W.Pm)
    && (if nutating s n
    then enough_angles degree (list s k W.NutPrecAngles) (list s n W.NutPrecRa) (list s n W.NutPrecDec) (list s n W.NutPrecPm)
    else true)

-- the angles that are looked at: none where no nutation variable is there
abbrev pub angles : Pool → (n k : ℕ) → List Float
angles s n k = if nutating s n then list s k W.NutPrecAngles else []
