-- The number of divisors that remain falls.
use Rattle.angle.proofs.series.+close.Given as goal

abbrev pub decreases-close : goal.decreases-close
decreases-close g l = l.remaining
