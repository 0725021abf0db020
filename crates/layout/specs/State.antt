-- "It holds up to 16 texts, each under a label (any 32-bit unsigned number), 512 statements and 3,072 values. A text of no statements
-- still takes a label." "A string counts as a value; a pool keeps their bytes in a further 8,192." Definitions only.
use Rattle.std.specs.Prelude.{ℕ, List, [], ◌∷◌, ◌++◌, map, length}
use Rattle.statement.specs.Statements.{Values, numbers, strings, Statement}

-- a held text: its label and its statements
pub record Text : Type 0 where
  pub label : ℕ
  pub body : List Statement

-- what a pool holds, in load order
abbrev pub Pool : Type 0
Pool = List Text

-- the statements of all texts, in order
unfoldable pub program : Pool → List Statement
program [] = []
program (t ∷ ts) = t.body ++ program ts

-- lists that are given for each element, one after the other
unfoldable pub flat : {A B : Type 0} → (A → List B) → List A → List B
flat f [] = []
flat f (x ∷ xs) = f x ++ flat f xs

-- ---- values as words, and the bytes of strings

-- a number's word is its bits, a string's its length
abbrev pub words_of : Values → List ℕ
words_of (numbers bits) = bits
words_of (strings ss) = map length ss

-- strings have their bytes, one string after the other; numbers have none
abbrev pub spelled : Values → List ℕ
spelled (numbers bits) = []
spelled (strings ss) = flat (λ s. s) ss

abbrev pub values_of : Statement → List ℕ
values_of s = words_of s.values

abbrev pub bytes_of : Statement → List ℕ
bytes_of s = spelled s.values

-- all values as words, and all bytes of strings, in order
abbrev pub values : Pool → List ℕ
values s = flat values_of (program s)

abbrev pub string_bytes : Pool → List ℕ
string_bytes s = flat bytes_of (program s)
