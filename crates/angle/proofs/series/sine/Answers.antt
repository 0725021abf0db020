-- `sine` meets its contract: at first all divisors remain. Assumes nothing.
use lib.Ieee.{of_bits, round}
use Rattle.plain.specs.Doubles.{printed}
use Rattle.angle.proofs.series.sine.Goals as goal

pub returns : goal.returns
unfolding printed round of_bits
returns c = c.close.ensures
