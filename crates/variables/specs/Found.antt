-- "A successful fetch writes the values from the buffer's start and no further.": whether a variable of an undamaged pool is there, is of
-- numbers and has room in a buffer, and what is written. Definitions only.
use Rattle.std.specs.Prelude.{ℕ, ◌≡◌, List, [], ◌∷◌, leb, Float, length, if◌then◌else◌, Result, Ok, Err}
use Rattle.std.specs.Float.{binary64}
use Rattle.std.specs.Float.Ieee.{of_bits}
use Rattle.words.specs.Over.{over}
use Rattle.layout.specs.State.{Pool}
use Rattle.layout.specs.Memory.{decode}
use Rattle.variables.specs.Variables.{Datum, number, string, variable, present, all_numbers}
use Rattle.variables.specs.declared.variable.FindError.{FindError}
use Rattle.variables.specs.declared.variable.FindError.TheVariants as W

-- the numbers among some values, as doubles
abbrev pub numbers_among : List Datum → List Float
numbers_among [] = []
numbers_among (number w ∷ vs) = of_bits binary64 w ∷ numbers_among vs
numbers_among (string s ∷ vs) = numbers_among vs

abbrev pub doubles : List ℕ → Pool → List Float
doubles name s = numbers_among (variable name s)

-- what is found of so many values in a room of so many
abbrev pub fitted : (count room : ℕ) → Result ℕ FindError
fitted count room = if leb count room then Ok count else Err W.TooMany

unfoldable pub found_in : (name : List ℕ) (room : ℕ) → Pool → Result ℕ FindError
unfolding variable present all_numbers
found_in name room s =
    if present name s then (if all_numbers (variable name s) then fitted (length (variable name s)) room else Err W.Mixed) else Err W.Absent

-- a buffer with these written from its start, where they were found
abbrev pub filled : {A : Type 0} → Result ℕ FindError → List A → (buffer : List A) → List A
filled (Ok n) xs buffer = over 0 xs buffer
filled (Err e) xs buffer = buffer

pub record Finds (name memory : List ℕ) (before : List Float) (r : Result ℕ FindError) (after : List Float) : Type 0 where
  pub found : r ≡ found_in name (length before) (decode memory)
  pub buffer : after ≡ filled (found_in name (length before) (decode memory)) (doubles name (decode memory)) before
