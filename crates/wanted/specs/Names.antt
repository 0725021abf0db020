-- "With n the code, the variables are BODYn_POLE_RA, BODYn_POLE_DEC, BODYn_PM .. BODYn_NUT_PREC_RA, _DEC and _PM ..
-- BODYs_NUT_PREC_ANGLES .. BODYn_RADII", "BODYs_MAX_PHASE_DEGREE": their bytes. Definitions only.
use Rattle.std.specs.Prelude.{ℕ, ◌+◌, ◌/◌, ◌%◌, List, [], ◌∷◌, ◌++◌, ltb, if◌then◌else◌}
use Rattle.plain.specs.Bytes.{ZERO}
use Rattle.plain.specs.Ascii.{ascii}
use Rattle.wanted.specs.declared.name.Wanted.{Wanted}
use Rattle.wanted.specs.declared.name.Wanted.TheVariants as W

abbrev pub BODY : List ℕ
BODY = ascii "BODY"

-- what follows the code
abbrev pub suffix : Wanted → List ℕ
suffix W.PoleRa = ascii "_POLE_RA"
suffix W.PoleDec = ascii "_POLE_DEC"
suffix W.Pm = ascii "_PM"
suffix W.NutPrecRa = ascii "_NUT_PREC_RA"
suffix W.NutPrecDec = ascii "_NUT_PREC_DEC"
suffix W.NutPrecPm = ascii "_NUT_PREC_PM"
suffix W.NutPrecAngles = ascii "_NUT_PREC_ANGLES"
suffix W.MaxPhaseDegree = ascii "_MAX_PHASE_DEGREE"
suffix W.Radii = ascii "_RADII"

-- the length of the longest of them
abbrev pub SUFFIX : ℕ
SUFFIX = 17

-- the largest code, and how many figures it has
abbrev pub LARGEST : ℕ
LARGEST = 999

abbrev pub FIGURES : ℕ
FIGURES = 3

abbrev pub figure : ℕ → ℕ
figure d = ZERO + d

-- a code of up to three figures, without leading zeros
abbrev pub numeral : ℕ → List ℕ
numeral n =
    if ltb n 10 then figure n ∷ []
    else (if ltb n 100 then figure (n / 10) ∷ figure (n % 10) ∷ []
    else (figure (n / 100) ∷ figure (n / 10 % 10) ∷ figure (n % 10) ∷ []))

unfoldable pub name_of : ℕ → Wanted → List ℕ
name_of n wanted = BODY ++ (numeral n ++ suffix wanted)
