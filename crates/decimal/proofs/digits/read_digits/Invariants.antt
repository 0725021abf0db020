-- `read_digits` meets its contract: what is left to write, after the number so far, is what was to be written. Assumes nothing.
use Prim.Native.Nat.{◌≤◌}
use mathlib.Core.Path.{◌≡◌}
use lib.ListN.{length}
use Rattle.decimal.proofs.Left.{Left}
use Rattle.decimal.proofs.digits.read_digits.Given as goal

abbrev pub invariant-loop-end : goal.invariant-loop-end
invariant-loop-end l = record { left : Left l.value l.at l.w l.number l.end; beyond : length l.value ≤ l.at → l.end ≡ l.at }
