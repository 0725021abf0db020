-- The doublings that remain fall.
use Prim.Native.Nat.{◌-◌}
use Rattle.angle.proofs.remainder.+halved.Given as goal

abbrev pub decreases-halved : goal.decreases-halved
decreases-halved l = 1016 - l.k
