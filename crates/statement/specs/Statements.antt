-- Statements, and what lines add to them. Definitions only.
use Rattle.std.specs.Prelude.{ℕ, ◌+◌, List, [], ◌∷◌, length}
use Rattle.std.specs.Float.{binary64}
use Rattle.std.specs.Float.Ieee.{to_bits}
use Rattle.value.specs.Value.{Value, number, string, bytes_in}
use Rattle.statement.specs.declared.head.Operator.{Operator}

-- "A list is all numbers or all strings": the bits of numbers, or the bytes of strings
pub data Values : Type 0 where
  numbers : (bits : List ℕ) → Values
  strings : (bytes : List (List ℕ)) → Values

-- how many they are, and how many bytes the strings have together
abbrev pub how_many : Values → ℕ
how_many (numbers bs) = length bs
how_many (strings ss) = length ss

abbrev pub joined_length : List (List ℕ) → ℕ
joined_length [] = 0
joined_length (s ∷ ss) = length s + joined_length ss

abbrev pub how_long : Values → ℕ
how_long (numbers bs) = 0
how_long (strings ss) = joined_length ss

-- a statement: its name's bytes, its operator, its values
pub record Statement : Type 0 where
  pub name : List ℕ
  pub operator : Operator
  pub values : Values

-- ---- what lines add, in order: a statement is opened, a value is given to the one opened last

pub data Event : Type 0 where
  opened : (name : List ℕ) → Operator → Event
  value : Value → Event

-- the numbers among some values, and the strings
abbrev pub numbers_in : List Value → List ℕ
numbers_in [] = []
numbers_in (number x ∷ vs) = to_bits binary64 x ∷ numbers_in vs
numbers_in (string s ∷ vs) = numbers_in vs

abbrev pub strings_in : List Value → List (List ℕ)
strings_in [] = []
strings_in (number x ∷ vs) = strings_in vs
strings_in (string s ∷ vs) = s ∷ strings_in vs

-- a statement's values, of the kind of the first: no statement that is read has a value of another kind
abbrev pub of_one_kind : List Value → Values
of_one_kind [] = numbers []
of_one_kind (number x ∷ vs) = numbers (to_bits binary64 x ∷ numbers_in vs)
of_one_kind (string s ∷ vs) = strings (s ∷ strings_in vs)

-- the statements of some events: the values up to the next opening, and the statements from there on
pub record Gathered : Type 0 where
  pub loose : List Value
  pub statements : List Statement

abbrev pub gathered : List Event → Gathered
gathered [] = record { loose = []; statements = [] }
gathered (value v ∷ es) = record { loose = v ∷ (gathered es).loose; statements = (gathered es).statements }
gathered (opened n o ∷ es) =
    record { loose = []; statements = record { name = n; operator = o; values = of_one_kind (gathered es).loose } ∷ (gathered es).statements }

abbrev pub statements : List Event → List Statement
statements es = (gathered es).statements

-- how many statements are opened, how many values given, and how many bytes in strings
abbrev pub openings : List Event → ℕ
openings [] = 0
openings (opened n o ∷ es) = openings es + 1
openings (value v ∷ es) = openings es

abbrev pub givings : List Event → ℕ
givings [] = 0
givings (opened n o ∷ es) = givings es
givings (value v ∷ es) = givings es + 1

abbrev pub bytes_given : List Event → ℕ
bytes_given [] = 0
bytes_given (opened n o ∷ es) = bytes_given es
bytes_given (value v ∷ es) = bytes_in v + bytes_given es
