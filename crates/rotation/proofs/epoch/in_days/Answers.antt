-- `in_days` meets its contract: the code's constant is the printed one. Assumes nothing.
use mathlib.Core.Path.{refl}
use lib.Ieee.{of_bits, round}
use Rattle.plain.specs.Doubles.{printed}
use Rattle.rotation.specs.Epochs.{days}
use Rattle.rotation.proofs.epoch.in_days.Goals as goal

pub returns : goal.returns
unfolding days printed round of_bits
returns c = refl
