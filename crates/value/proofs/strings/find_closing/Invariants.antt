-- `find_closing` meets its contract: the bytes counted so far and those left make all. Assumes nothing.
use Prim.Native.Nat.{◌-◌, ◌≤◌}
use mathlib.Core.Path.{◌≡◌}
use lib.ListN.{length, drop}
use Rattle.value.specs.Strings.{scanned, closing}
use Rattle.value.proofs.strings.find_closing.Given as goal

abbrev pub invariant-loop-i : goal.invariant-loop-i
invariant-loop-i l = (l.long ≤ l.i) × (closing l.long l.i (scanned (drop l.i l.line)) ≡ closing 0 l.at (scanned (drop l.at l.line)))

abbrev pub decreases-loop-i : goal.decreases-loop-i
decreases-loop-i l = length l.line - l.i
