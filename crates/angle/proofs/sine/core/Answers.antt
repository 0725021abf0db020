-- `core` meets its contract: the two series are put in. Assumes nothing.
use lib.Ieee.{of_bits, round}
use Rattle.plain.specs.Doubles.{printed}
use Rattle.angle.specs.Sine.{core}
use Rattle.angle.proofs.sine.core.Goals as goal

pub returns : goal.returns
unfolding core printed round of_bits
returns c = rw (c.sine.ensures, c.cosine.ensures)
