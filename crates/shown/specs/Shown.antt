-- "the variables in byte order of names, each with its count, then how many values these variables have together and the bits of
-- each, in the same order". "The listing shows a string quoted, as written, in place of bits." Definitions only.
use Rattle.std.specs.Prelude.{ℕ, List, [], ◌∷◌, ◌++◌, length}
use Rattle.plain.specs.Ascii.{ascii}
use Rattle.plain.specs.Bytes.{LF}
use Rattle.value.specs.Strings.{quoted}
use Rattle.layout.specs.State.{Pool, program, flat}
use Rattle.variables.specs.Variables.{Datum, number, string, variable}
use Rattle.pen.specs.Figures.{bits}
use Rattle.pen.specs.Pen.{entry}
use Rattle.order.specs.Order.{names}

-- the words of two lines
abbrev pub VARIABLES : List ℕ
VARIABLES = ascii "variables"

abbrev pub VALUES : List ℕ
VALUES = ascii "values"

abbrev pub names_in : Pool → List (List ℕ)
names_in s = names (program s)

-- all values of the variables, variable by variable
unfoldable pub values_of : Pool → List (List ℕ) → List Datum
values_of s ns = flat (λ n. variable n s) ns

unfoldable pub counts : Pool → List (List ℕ) → List ℕ
counts s ns = flat (λ n. entry n (length (variable n s))) ns

-- a value on a line: the bits of a number, or a string as it is written
abbrev pub value_line : Datum → List ℕ
value_line (number w) = bits w ++ (LF ∷ [])
value_line (string s) = quoted s ++ (LF ∷ [])

unfoldable pub value_lines : List Datum → List ℕ
value_lines vs = flat value_line vs

unfoldable pub shown : Pool → List ℕ
unfolding values_of counts value_lines
shown s =
    entry VARIABLES (length (names_in s))
    ++ (counts s (names_in s)
    ++ (entry VALUES (length (values_of s (names_in s))) ++ value_lines (values_of s (names_in s))))
