-- "a variable is its last direct assignment followed by all later appendings, or all appendings.", of values of both kinds: "demand 3
-- covers strings too". Definitions only.
use Rattle.std.specs.Prelude.{ℕ, ◌≡◌, true, false, ◌⊎◌, List, [], ◌∷◌, ◌++◌, if◌then◌else◌}
use Rattle.statement.specs.Statements.{Statement}
use Rattle.layout.specs.State.{Pool, program, flat}
use Rattle.variables.specs.Variables.{Datum, is_direct, has, assigns, any, each, gives, variable}

-- the values of all statements with the name, in order
abbrev pub given : List ℕ → List Statement → List Datum
given name ss = flat (gives name) ss

-- among the statements there is a direct assignment, and none after it: the values are its own, and those of the appendings after it
pub record LastDirect (name : List ℕ) (ss : List Statement) (values : List Datum) : Type 0 where
  pub before : List Statement
  pub last : Statement
  pub later : List Statement
  pub order : ss ≡ before ++ (last ∷ later)
  pub direct : assigns name last ≡ true
  pub none : any (assigns name) later ≡ false
  pub are : values ≡ each last.values ++ given name later

-- there is none: the values are those of all appendings
pub record NoDirect (name : List ℕ) (ss : List Statement) (values : List Datum) : Type 0 where
  pub none : any (assigns name) ss ≡ false
  pub are : values ≡ given name ss

-- the sentence: these are the values of the name, of statements in order
abbrev pub Said : (name : List ℕ) → List Statement → (values : List Datum) → Type 0
Said name ss values = LastDirect name ss values ⊎ NoDirect name ss values

-- of the statements of the held texts in order
abbrev pub Sentence : Type 0
Sentence = (name : List ℕ) (s : Pool) → Said name (program s) (variable name s)

-- ---- the same, statement by statement from the first on

-- one statement more: a direct assignment replaces the values, an appending is added at the end
abbrev pub onto : List ℕ → (values : List Datum) → Statement → List Datum
onto name xs s = if has name s then (if is_direct s.operator then each s.values else xs ++ each s.values) else xs

unfoldable pub forward : List ℕ → (values : List Datum) → List Statement → List Datum
forward name xs [] = xs
forward name xs (s ∷ ss) = forward name (onto name xs s) ss

abbrev pub Forward : Type 0
Forward = (name : List ℕ) (s : Pool) → variable name s ≡ forward name [] (program s)
