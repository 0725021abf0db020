-- Statements that a memory can hold: "names and operators legal; every statement's count at least 1", "every held value finite and of size below 2^200", strings
-- of a data line's bytes. Definitions only.
use Rattle.std.specs.Prelude.{ℕ, ◌≤◌, ◌≡◌, true, List, length}
use Rattle.plain.specs.Bytes.{fair}
use Rattle.plain.specs.Lists.{Each}
use Rattle.value.specs.Strings.{STRING}
use Rattle.statement.specs.Statements.{Values, numbers, strings, how_many, Statement}
use Rattle.names.specs.Names.{legal}
use Rattle.layout.specs.Damage.{small}

-- a string within the longest, of a data line's bytes
pub record FairString (s : List ℕ) : Type 0 where
  pub short : length s ≤ STRING
  pub fair : Each (λ b. fair b ≡ true) s

-- numbers finite and below 2^200 in size, or such strings
abbrev pub FairValues : Values → Type 0
FairValues (numbers bits) = Each (λ w. small w ≡ true) bits
FairValues (strings ss) = Each FairString ss

-- a statement with a legal name, with values, and these fair
pub record Fair (x : Statement) : Type 0 where
  pub name : legal x.name ≡ true
  pub some : 1 ≤ how_many x.values
  pub values : FairValues x.values
