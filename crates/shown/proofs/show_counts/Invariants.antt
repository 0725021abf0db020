-- `show_counts` meets its contract: after k turns the lines of the first k variables are written and their values counted. Assumes nothing.
use mathlib.Core.Path.{◌≡◌}
use mathlib.Core.List.{List}
use Prim.Native.Nat.{ℕ}
use lib.ListN.{length, take}
use Rattle.words.specs.Placed.{Writes}
use Rattle.layout.specs.State.{flat}
use Rattle.layout.specs.Memory.{decode}
use Rattle.variables.specs.Variables.{Datum, variable}
use Rattle.shown.specs.Shows.{line, listed}
use Rattle.shown.specs.declared.Ends.{Ends}
use Rattle.shown.proofs.show_counts.Given as goal

-- a variable's values
abbrev pub valued : (m name : List ℕ) → List Datum
valued m name = variable name (decode m)

-- the first k variables are listed
pub record Listed (m : List ℕ) (ns : List (List ℕ)) (at : ℕ) (out : List ℕ) (k : ℕ) (ends : Ends) (out' : List ℕ) : Type 0 where
  pub lines : Writes at (flat (line m) (take k ns)) out ends.at out'
  pub total : ends.total ≡ length (flat (valued m) (take k ns))

abbrev pub invariant-loop-place : goal.invariant-loop-place
invariant-loop-place l = Listed l.fn.pool.words.now (listed l.fn.pool.words.now (length l.places) l.places) l.at l.initial.out l.place-index l.ends l.out
