-- What is known of a variable by what was found of it: the four cases of `found_of`. Assumes nothing.
use mathlib.Core.Path.{◌≡◌, refl, ◌∙◌}
use mathlib.Core.Bool.{Bool, true, false}
use mathlib.Core.List.{List, []}
use Prim.Native.Nat.{ℕ, ◌≤◌, ◌<◌}
use borrow.Author.Tests.{leb-true, leb-false}
use lib.Dec.{leb}
use lib.Ieee.{Float}
use lib.ListN.{length}
use Rattle.std.specs.Prelude.{Result, Ok, Err}
use Rattle.words.specs.Over.{over}
use Rattle.layout.specs.State.{Pool}
use Rattle.layout.specs.Memory.{decode}
use Rattle.variables.specs.Variables.{variable, present, all_numbers}
use Rattle.variables.specs.Found.{doubles, found_in, filled, Finds}
use Rattle.variables.specs.declared.variable.FindError.{FindError}
use Rattle.variables.specs.declared.variable.FindError.TheVariants as F
use Rattle.variables.proofs.Counts.{length-numbers}
use Rattle.variables.proofs.Presence.{absent-doubles, absent-numbers}
use Rattle.wanted.specs.Names.{name_of}
use Rattle.wanted.specs.Elements.{there, numeric, list}
use Rattle.wanted.specs.declared.name.Wanted.{Wanted}
use Rattle.wanted.specs.Steps.{found_of, Looks}

-- a count: the variable is there and of numbers, has so many and room for them
pub record Counted (there numeric : Bool) (xs before : List Float) (n : ℕ) (after : List Float) : Type 0 where
  pub present : there ≡ true
  pub numbers : numeric ≡ true
  pub count : n ≡ length xs
  pub roomy : length xs ≤ length before
  pub written : after ≡ over 0 xs before

-- too many: the variable is there and of numbers, and has no room
pub record Crowded (there numeric : Bool) (xs before : List Float) : Type 0 where
  pub present : there ≡ true
  pub numbers : numeric ≡ true
  pub crowded : length before < length xs

-- mixed: the variable is there, and not of numbers
pub record Strange (there numeric : Bool) : Type 0 where
  pub present : there ≡ true
  pub strings : numeric ≡ false

abbrev Known : (there numeric : Bool) (xs before after : List Float) → Result ℕ FindError → Type 0
Known there numeric xs before after (Ok n) = Counted there numeric xs before n after
Known there numeric xs before after (Err F.TooMany) = Crowded there numeric xs before
Known there numeric xs before after (Err F.Mixed) = Strange there numeric
Known there numeric xs before after (Err F.Absent) = there ≡ false

known_by : (xs before after : List Float) (there numeric roomy : Bool) → leb (length xs) (length before) ≡ roomy
    → after ≡ filled (found_of (length before) there numeric xs) xs before → Known there numeric xs before after (found_of (length before) there numeric xs)
known_by xs before after true true true e b =
    rw e (record { present = refl; numbers = refl; count = refl; roomy = leb-true _ _ e; written = rw e at b })
known_by xs before after true true false e b = rw e (record { present = refl; numbers = refl; crowded = leb-false _ _ e })
known_by xs before after true false roomy e b = record { present = refl; strings = refl }
known_by xs before after false numeric roomy e b = refl

module _ {there numeric : Bool} {xs before after : List Float} {r : Result ℕ FindError} (l : Looks there numeric xs before r after) where
  known : Known there numeric xs before after r
  known = rw l.found (known_by xs before after there numeric (leb (length xs) (length before)) refl l.buffer)

  pub counted : (n : ℕ) → r ≡ Ok n → Counted there numeric xs before n after
  counted n e = rw e at known

  pub crowded : r ≡ Err F.TooMany → Crowded there numeric xs before
  crowded e = rw e at known

  pub mixed : r ≡ Err F.Mixed → Strange there numeric
  mixed e = rw e at known

  pub absent : r ≡ Err F.Absent → there ≡ false
  absent e = rw e at known

-- what the pool's walk finds under a name
found-by : (there numeric : Bool) (name : List ℕ) (room : ℕ) (s : Pool) → present name s ≡ there → all_numbers (variable name s) ≡ numeric
    → found_in name room s ≡ found_of room (present name s) (all_numbers (variable name s)) (doubles name s)
unfolding found_in
found-by true true name room s e f = simp (e, f, length-numbers (variable name s) f)
found-by true false name room s e f = simp (e, f)
found-by false numeric name room s e f = simp e

pub looks : {name m : List ℕ} {before after : List Float} {r : Result ℕ FindError} → Finds name m before r after
    → Looks (present name (decode m)) (all_numbers (variable name (decode m))) (doubles name (decode m)) before r after
looks {name} {m} {before} f =
    let e = found-by (present name (decode m)) (all_numbers (variable name (decode m))) name (length before) (decode m) refl refl in
    record { found = f.found ∙ e; buffer = rw e at f.buffer }

-- a variable that is not there has no values, so no string
module _ (s : Pool) (n : ℕ) (wanted : Wanted) (e : there s n wanted ≡ false) where
  pub not-there-empty : list s n wanted ≡ []
  not-there-empty = absent-doubles (name_of n wanted) s e

  pub not-there-numeric : numeric s n wanted ≡ true
  not-there-numeric = absent-numbers (name_of n wanted) s e
