-- `straight` meets its contract: the code's 0 is the printed one. Assumes nothing.
use mathlib.Core.Path.{refl}
use lib.Ieee.{of_bits, round}
use Rattle.plain.specs.Doubles.{printed}
use Rattle.rotation.proofs.table.straight.Goals as goal

pub returns : goal.returns
unfolding printed round of_bits
returns c = refl
