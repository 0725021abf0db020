-- `past` meets its contract: the run from i on ends where the run from `at` on does, and the mask tells the class. Assumes nothing.
use Prim.Native.Nat.{◌≤◌}
use mathlib.Core.Path.{◌≡◌}
use lib.ListN.{length}
use Rattle.plain.specs.Runs.{past}
use Rattle.value.specs.Masks.{bit}
use Rattle.value.proofs.classes.past.Given as goal

abbrev pub invariant-loop-i : goal.invariant-loop-i
invariant-loop-i l = record { same : past (bit l.mask) l.line l.i ≡ past (bit l.mask) l.line l.at; beyond : length l.line ≤ l.at → l.i ≡ l.at }
