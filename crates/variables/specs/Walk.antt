-- Where a variable begins in a memory: what a walk backward over the texts and their statements finds. Definitions only.
use Rattle.std.specs.Prelude.{ℕ, ◌+◌, ◌≤◌, ◌≡◌, List, [], ◌∷◌, length, take, drop}
use Rattle.words.specs.Halves.{sum}
use Rattle.layout.specs.State.{program}
use Rattle.layout.specs.Memory.{statement_count, head_words, decode}
use Rattle.variables.specs.Variables.{Datum, number, string, since, variable}

-- how many of some values are strings
unfoldable pub string_count : List Datum → ℕ
string_count [] = 0
string_count (number w ∷ vs) = string_count vs
string_count (string s ∷ vs) = string_count vs + 1

-- the variable's statements are those from place `statement` on, the values of that statement those from place `value` on, and the
-- variable has `count` values, of which `strings` are strings
pub record Begins (name m : List ℕ) (statement value count strings : ℕ) : Type 0 where
  pub within : statement ≤ statement_count m
  pub here : since name (program (decode m)) ≡ drop statement (program (decode m))
  pub offset : value ≡ sum (take statement (head_words m))
  pub size : count ≡ length (variable name (decode m))
  pub kinds : strings ≡ string_count (variable name (decode m))
