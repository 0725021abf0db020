-- `check` meets its contract: the counts of the lines passed and what is left to read make the whole text's answer. Assumes nothing.
use Prim.Native.Nat.{◌+◌, ◌-◌}
use lib.ListN.{length}
use Rattle.text.proofs.Tallies.{SoFar}
use Rattle.text.proofs.check.Given as goal

abbrev pub invariant-loop-at : goal.invariant-loop-at
invariant-loop-at l = SoFar l.text l.reader l.at l.number l.long l.statements l.values l.bytes

abbrev pub decreases-loop-at : goal.decreases-loop-at
decreases-loop-at l = length l.text + 1 - l.at
