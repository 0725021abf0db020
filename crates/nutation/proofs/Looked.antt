-- What was looked for is there, and of numbers, exactly as what was found says. Assumes nothing.
use mathlib.Core.Path.{◌≡◌, refl, sym, ap}
use mathlib.Core.Bool.{Bool, true, false, not}
use mathlib.Core.List.{List, []}
use native.Mathlib.Omega.{arith}
use borrow.Author.Tests.{le-leb}
use Prim.Native.Nat.{ℕ}
use lib.Dec.{leb}
use lib.Ieee.{Float}
use lib.ListN.{length}
use Rattle.std.specs.Prelude.{Result, Ok, Err}
use Rattle.words.proofs.Over.{over-nil}
use Rattle.variables.specs.declared.variable.FindError.{FindError}
use Rattle.variables.specs.declared.variable.FindError.TheVariants as F
use Rattle.wanted.specs.Steps.{is_there, is_mixed, Looks}
use Rattle.wanted.proofs.Found.{counted, crowded, mixed, absent}

-- no values are found where none are wanted
pub nothing : (before : List Float) → Looks true true [] before (Ok 0) before
nothing before =
    let e : leb 0 (length before) ≡ true = le-leb 0 (length before) (omega arith) in
    record { found = rw e; buffer = rw e (sym (over-nil 0 before)) }

-- a variable is found exactly when it is there
pub found-there : {there numeric : Bool} {xs before after : List Float} (r : Result ℕ FindError) → Looks there numeric xs before r after → is_there r ≡ there
found-there (Ok n) l = sym (counted l n refl).present
found-there (Err F.TooMany) l = sym (crowded l refl).present
found-there (Err F.Mixed) l = sym (mixed l refl).present
found-there (Err F.Absent) l = sym (absent l refl)

-- and it is found to be mixed exactly when it is not of numbers
pub found-mixed : {there numeric : Bool} {xs before after : List Float} (r : Result ℕ FindError) → Looks there numeric xs before r after
    → (there ≡ false → numeric ≡ true) → is_mixed r ≡ not numeric
found-mixed (Ok n) l none = sym (ap not (counted l n refl).numbers)
found-mixed (Err F.TooMany) l none = sym (ap not (crowded l refl).numbers)
found-mixed (Err F.Mixed) l none = sym (ap not (mixed l refl).strings)
found-mixed (Err F.Absent) l none = sym (ap not (none (absent l refl)))
