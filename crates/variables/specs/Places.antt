-- Where a value of a variable stands in a memory, and where a string's bytes do. Definitions only.
use Rattle.std.specs.Prelude.{ℕ, ◌+◌, ◌≤◌, ◌<◌, ◌≡◌, List, [], ◌∷◌, length, take, drop, get_or, Result}
use Rattle.statement.specs.Statements.{Statement, how_many}
use Rattle.words.specs.Over.{part}
use Rattle.words.specs.Halves.{sum, lower}
use Rattle.layout.specs.State.{program}
use Rattle.layout.specs.Memory.{statement_count, value_count, byte_count, head_words, value_words, held_bytes, decode}
use Rattle.layout.specs.Damage.{total_bytes}
use Rattle.variables.specs.Variables.{string, each, variable}
use Rattle.variables.specs.Found.{fitted, filled}
use Rattle.variables.specs.declared.variable.FindError.{FindError}

-- the value at a place of the variable, counted from 0, is the value `index` of the statement at place `statement`, whose values are
-- those from place `value` on
pub record Stands (name m : List ℕ) (place statement value index : ℕ) : Type 0 where
  pub stated : Statement
  pub rest : List Statement
  pub here : drop statement (program (decode m)) ≡ stated ∷ rest
  pub offset : value ≡ sum (take statement (head_words m))
  pub inside : index < how_many stated.values
  pub same : get_or (variable name (decode m)) place (string []) ≡ get_or (each stated.values) index (string [])

-- a memory has such a statement and such a value of it
pub record Spelt (m : List ℕ) (statement value index : ℕ) : Type 0 where
  pub held : statement < statement_count m
  pub offset : value ≡ sum (take statement (head_words m))
  pub inside : index < lower (get_or (head_words m) statement 0)

-- the bytes of all strings of the statements before it, and of its statement's values before the one
abbrev pub byte_before : (m : List ℕ) (statement value index : ℕ) → ℕ
byte_before m s value index = total_bytes (take s (head_words m)) (value_words m) + sum (part value index (value_words m))

-- a memory has such a value, and as many bytes from there on as its word tells
pub record Placed (m : List ℕ) (value byte : ℕ) : Type 0 where
  pub held : value < value_count m
  pub fits : byte + get_or (value_words m) value 0 ≤ byte_count m

-- they are copied to a buffer's start if they have room
pub record Copies (m : List ℕ) (value byte : ℕ) (before : List ℕ) (r : Result ℕ FindError) (after : List ℕ) : Type 0 where
  pub found : r ≡ fitted (get_or (value_words m) value 0) (length before)
  pub buffer : after ≡ filled r (part byte (get_or (value_words m) value 0) (held_bytes m)) before
