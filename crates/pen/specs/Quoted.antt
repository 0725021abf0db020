-- What the functions need that write a string in quotes. Definitions only.
use Rattle.std.specs.Prelude.{ℕ, List, [], ◌∷◌, ◌++◌}
use Rattle.plain.specs.Bytes.{LF}
use Rattle.value.specs.Strings.{doubled, quoted}
use Rattle.words.specs.Over.{part}
use Rattle.words.specs.Placed.{Room}
use Rattle.octets.specs.Octets.{octets}
use Rattle.octets.specs.Places.{Has}

-- the words have n bytes from place `from` on, and there is room for them in quotes and a line end
pub record Quoting (at : ℕ) (ws : List ℕ) (from n : ℕ) (out : List ℕ) : Type 0 where
  pub bytes : Has from n ws
  pub room : Room at (quoted (part from n (octets ws)) ++ (LF ∷ [])) out

-- the same without quotes and line end
pub record Doubling (at : ℕ) (ws : List ℕ) (from n : ℕ) (out : List ℕ) : Type 0 where
  pub bytes : Has from n ws
  pub room : Room at (doubled (part from n (octets ws))) out
