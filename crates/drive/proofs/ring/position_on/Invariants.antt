-- `position_on` meets its contract: the position stays between the two ends, which come together. Assumes nothing.
use Prim.Native.Nat.{◌-◌}
use Rattle.drive.proofs.Positions.{Between}
use Rattle.drive.proofs.ring.position_on.Given as goal

abbrev pub invariant-loop-low : goal.invariant-loop-low
invariant-loop-low l = Between l.ring l.w l.low l.high

abbrev pub decreases-loop-low : goal.decreases-loop-low
decreases-loop-low l = l.high - l.low
