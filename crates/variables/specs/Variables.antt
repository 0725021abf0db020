-- "a variable is its last direct assignment followed by all later appendings, or all appendings." "Appending may bring both kinds under
-- one name". Definitions only.
use Rattle.std.specs.Prelude.{ℕ, Bool, true, false, ◌&&◌, List, [], ◌∷◌, map, if◌then◌else◌}
use Rattle.plain.specs.Lists.{equal}
use Rattle.statement.specs.Statements.{Values, numbers, strings, Statement}
use Rattle.statement.specs.declared.head.Operator.{Operator}
use Rattle.statement.specs.declared.head.Operator.TheVariants.{Direct, Append}
use Rattle.layout.specs.State.{Pool, program, flat}

abbrev pub is_direct : Operator → Bool
is_direct Direct = true
is_direct Append = false

-- the statement has the name
abbrev pub has : List ℕ → Statement → Bool
has name s = equal s.name name

-- it assigns to the name directly
abbrev pub assigns : List ℕ → Statement → Bool
assigns name s = has name s && is_direct s.operator

-- some statement passes a test
unfoldable pub any : (Statement → Bool) → List Statement → Bool
any p [] = false
any p (s ∷ ss) = if p s then true else any p ss

-- the statements from the last direct assignment to the name on, or all of them where there is none
unfoldable pub since : List ℕ → List Statement → List Statement
unfolding any
since name [] = []
since name (s ∷ ss) = if any (assigns name) ss then since name ss else (s ∷ ss)

-- one value: a number's bits, or a string's bytes
pub data Datum : Type 0 where
  number : (bits : ℕ) → Datum
  string : (bytes : List ℕ) → Datum

abbrev pub each : Values → List Datum
each (numbers ws) = map number ws
each (strings ss) = map string ss

-- the values that a statement gives the name
abbrev pub gives : List ℕ → Statement → List Datum
gives name s = if has name s then each s.values else []

-- the variable's values
unfoldable pub variable : List ℕ → Pool → List Datum
unfolding since flat program
variable name s = flat (gives name) (since name (program s))

-- some held statement has the name
unfoldable pub present : List ℕ → Pool → Bool
unfolding any program
present name s = any (has name) (program s)

-- no string is in it, and no number is
unfoldable pub all_numbers : List Datum → Bool
all_numbers [] = true
all_numbers (number w ∷ vs) = all_numbers vs
all_numbers (string s ∷ vs) = false

unfoldable pub all_strings : List Datum → Bool
all_strings [] = true
all_strings (number w ∷ vs) = false
all_strings (string s ∷ vs) = all_strings vs
