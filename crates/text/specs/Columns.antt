-- Where a refusal points: "give the column, counted from 1, beside the line" (document 02, K3). Definitions only.
use Rattle.std.specs.Prelude.{ℕ, ◌+◌, ◌≤◌, ◌≡◌, List, ◌∷◌, ◌++◌, length}
use Rattle.text.specs.Lengths.{LONGEST_LINE}
use Rattle.text.specs.Lines.{lines}

-- "the column, counted from 1": that of a place, which is counted from 0
abbrev pub column_of : (place : ℕ) → ℕ
column_of place = place + 1

-- the text has a line of this number, and the column is one of its bytes or "one past the line"; "for a line too long the column is 133", and
-- none is larger
pub record Pointed (text : List ℕ) (number column : ℕ) : Type 0 where
  pub earlier : List (List ℕ)
  pub line : List ℕ
  pub later : List (List ℕ)
  pub split : lines text ≡ earlier ++ line ∷ later
  pub number_is : number ≡ length earlier + 1
  pub least : 1 ≤ column
  pub within : column ≤ length line + 1
  pub most : column ≤ LONGEST_LINE + 1
