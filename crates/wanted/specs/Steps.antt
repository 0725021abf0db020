-- The answer step by step, over what was found: a variable in a buffer, a polynomial, and the three of pole and meridian together.
-- Definitions only.
use Rattle.std.specs.Prelude.{ℕ, ◌≡◌, Bool, true, false, ◌||◌, List, Float, length, if◌then◌else◌, Result, Ok, Err}
use Rattle.layout.specs.Memory.{decode}
use Rattle.variables.specs.Found.{fitted, filled}
use Rattle.variables.specs.declared.variable.FindError.{FindError}
use Rattle.variables.specs.declared.variable.FindError.TheVariants as F
use Rattle.rotation.specs.declared.elements.Polynomial.{Polynomial}
use Rattle.rotation.specs.declared.elements.Elements.{Elements}
use Rattle.wanted.specs.Elements.{there, numeric, list, few_values, polynomial}
use Rattle.wanted.specs.declared.name.Wanted.{Wanted}

-- ---- a variable in a buffer

-- what is found of a variable that is there or not, is of numbers or not, and has these, in a room of so many
abbrev pub found_of : (room : ℕ) → (there numeric : Bool) → List Float → Result ℕ FindError
found_of room true true xs = fitted (length xs) room
found_of room true false xs = Err F.Mixed
found_of room false numeric xs = Err F.Absent

pub record Looks (there numeric : Bool) (xs before : List Float) (r : Result ℕ FindError) (after : List Float) : Type 0 where
  pub found : r ≡ found_of (length before) there numeric xs
  pub buffer : after ≡ filled (found_of (length before) there numeric xs) xs before

-- a body's variable, looked for in the texts that a memory holds
abbrev pub LooksFor : (m : List ℕ) (n : ℕ) → Wanted → (before : List Float) → Result ℕ FindError → (after : List Float) → Type 0
LooksFor m n wanted before r after =
    Looks (there (decode m) n wanted) (numeric (decode m) n wanted) (list (decode m) n wanted) before r after

-- ---- pole and meridian

-- "1 to 3 values each"
abbrev pub values_of : (there numeric : Bool) → List Float → Result Polynomial FindError
values_of true true xs = if few_values xs then Ok (polynomial xs) else Err F.TooMany
values_of true false xs = Err F.Mixed
values_of false numeric xs = Err F.Absent

-- 1 where the variable is there, and 0 where it is not
abbrev pub presence : Result Polynomial FindError → ℕ
presence (Ok p) = 1
presence (Err F.TooMany) = 1
presence (Err F.Mixed) = 1
presence (Err F.Absent) = 0

-- it is there, of whatever kind and count
abbrev pub is_there : {A : Type 0} → Result A FindError → Bool
is_there (Ok p) = true
is_there (Err F.TooMany) = true
is_there (Err F.Mixed) = true
is_there (Err F.Absent) = false

-- a string is in it
abbrev pub is_mixed : {A : Type 0} → Result A FindError → Bool
is_mixed (Ok p) = false
is_mixed (Err F.TooMany) = false
is_mixed (Err F.Mixed) = true
is_mixed (Err F.Absent) = false

-- the three together, where no string is in them
abbrev pub whole : (ra dec pm : Result Polynomial FindError) → Result Elements FindError
whole (Ok ra) (Ok dec) (Ok pm) = Ok (record { ra = ra; dec = dec; pm = pm })
whole (Ok ra) (Ok dec) (Err e) = Err e
whole (Ok ra) (Err e) pm = Err e
whole (Err e) dec pm = Err e

-- a string in one of them is told before any miscount
abbrev pub base_of : (ra dec pm : Result Polynomial FindError) → Result Elements FindError
base_of ra dec pm = if is_mixed ra || is_mixed dec || is_mixed pm then Err F.Mixed else whole ra dec pm
