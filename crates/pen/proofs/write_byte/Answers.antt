-- `write_byte` meets its contract: a store is one byte written over. Assumes nothing.
use mathlib.Core.Path.{refl}
use Rattle.words.proofs.Over.{over-one}
use Rattle.pen.proofs.write_byte.Goals as goal

pub returns : goal.returns
returns c = record { next = refl; output = over-one _ _ _ }
