-- "Strings are fetched by place, counted from 1, each to the start of a lent byte buffer, its length told." What is found of the string at a
-- place of a variable, and what is written. Definitions only.
use Rattle.std.specs.Prelude.{ℕ, ◌-◌, ◌≡◌, List, [], length, get_or, if◌then◌else◌, Result, Err}
use Rattle.plain.specs.Bytes.{within}
use Rattle.layout.specs.State.{Pool}
use Rattle.layout.specs.Memory.{decode}
use Rattle.variables.specs.Variables.{Datum, number, string, variable, all_strings}
use Rattle.variables.specs.Found.{fitted, filled}
use Rattle.variables.specs.declared.variable.FindError.{FindError}
use Rattle.variables.specs.declared.variable.FindError.TheVariants as W

-- a string's bytes; a number has none
abbrev pub letters : Datum → List ℕ
letters (number w) = []
letters (string s) = s

-- the string at a place of some values, counted from 1
abbrev pub string_of : (place : ℕ) → List Datum → List ℕ
string_of place vs = letters (get_or vs (place - 1) (string []))

-- "place 0 or past the end is 13; both fetches ask 13, 16, 14 in turn": 16 for "a variable with a number"
unfoldable pub spelled_in : (name : List ℕ) (place room : ℕ) → Pool → Result ℕ FindError
unfolding variable all_strings
spelled_in name place room s =
    if within 1 (length (variable name s)) place
    then (if all_strings (variable name s) then fitted (length (string_of place (variable name s))) room else Err W.Mixed)
    else Err W.Absent

pub record Spells (name : List ℕ) (place : ℕ) (memory before : List ℕ) (r : Result ℕ FindError) (after : List ℕ) : Type 0 where
  pub found : r ≡ spelled_in name place (length before) (decode memory)
  pub buffer : after ≡ filled (spelled_in name place (length before) (decode memory)) (string_of place (variable name (decode memory))) before
