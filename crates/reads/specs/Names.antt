-- "Which names a query may read": a given orientation or radii query, "its system's angles and degree included". docs/READS.md has them as a table.
-- Definitions only.
use Rattle.std.specs.Prelude.{ℕ, ◌≡◌, List, [], ◌∷◌, ltb, Float, length, get_or, if◌then◌else◌, Option, Some, None}
use Rattle.rotation.specs.Codes.{system_of}
use Rattle.words.specs.Over.{over}
use Rattle.wanted.specs.Names.{name_of}
use Rattle.wanted.specs.declared.name.Wanted.TheVariants as W
use Rattle.globe.specs.declared.source.Source.{Source}
use Rattle.globe.specs.declared.source.Source.TheVariants as S
use Rattle.reads.specs.declared.Asked.{Asked}
use Rattle.reads.specs.declared.Asked.TheVariants as A

abbrev pub Name : Type 0
Name = List ℕ

-- ---- of a pool

-- "With n the code", s its system; a code that is none has none
abbrev pub orientation_names : (n : ℕ) → Option ℕ → List Name
orientation_names n None = []
orientation_names n (Some s) =
    name_of n W.PoleRa ∷ name_of n W.PoleDec ∷ name_of n W.Pm ∷ name_of n W.NutPrecRa ∷ name_of n W.NutPrecDec ∷ name_of n W.NutPrecPm
    ∷ name_of s W.NutPrecAngles ∷ name_of s W.MaxPhaseDegree ∷ []

abbrev pub radii_names : (n : ℕ) → Option ℕ → List Name
radii_names n None = []
radii_names n (Some s) = name_of n W.Radii ∷ []

unfoldable pub listed : Asked → (n : ℕ) → List Name
unfolding system_of
listed A.Orientation n = orientation_names n (system_of n)
listed A.Radii n = radii_names n (system_of n)

-- ---- of either source

-- what is asked of a source about a body
pub data Query : Type 0 where
  orientation_of : Source → (code : ℕ) (epoch : Float) → Query
  radii_of : Source → (code : ℕ) → Query

-- the built-in source reads none
abbrev pub names : Query → List Name
names (orientation_of S.Builtin n epoch) = []
names (orientation_of S.Pool n epoch) = listed A.Orientation n
names (radii_of S.Builtin n) = []
names (radii_of S.Pool n) = listed A.Radii n

-- ---- one of them, told: the name at a place, from 0, in a buffer that has room for any

abbrev pub LONGEST_NAME : ℕ
LONGEST_NAME = 32

abbrev pub told : Asked → (n place room : ℕ) → Name
told asked n place room = if ltb room LONGEST_NAME then [] else get_or (listed asked n) place []

pub record Tells (asked : Asked) (n place : ℕ) (before : List ℕ) (r : ℕ) (after : List ℕ) : Type 0 where
  pub count : r ≡ length (told asked n place (length before))
  pub buffer : after ≡ over 0 (told asked n place (length before)) before
