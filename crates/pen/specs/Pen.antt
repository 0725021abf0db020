-- A word and a number with a space between them, alone and as a line. Definitions only.
use Rattle.std.specs.Prelude.{ℕ, List, [], ◌∷◌, ◌++◌}
use Rattle.plain.specs.Bytes.{LF, SPACE}
use Rattle.pen.specs.Figures.{decimal}

-- a word, a space and a number
abbrev pub phrase : List ℕ → ℕ → List ℕ
phrase word n = word ++ (SPACE ∷ decimal n)

-- a word and a number on a line
abbrev pub entry : List ℕ → ℕ → List ℕ
entry word n = word ++ (SPACE ∷ decimal n ++ (LF ∷ []))
