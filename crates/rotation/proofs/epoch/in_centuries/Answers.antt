-- `in_centuries` meets its contract: the code's constant is the printed one. Assumes nothing.
use mathlib.Core.Path.{refl}
use lib.Ieee.{of_bits, round}
use Rattle.plain.specs.Doubles.{printed}
use Rattle.rotation.specs.Epochs.{centuries}
use Rattle.rotation.proofs.epoch.in_centuries.Goals as goal

pub returns : goal.returns
unfolding centuries printed round of_bits
returns c = refl
