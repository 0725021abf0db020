-- `beyond` meets its contract: what is no infinity is a positive double. Assumes nothing.
use mathlib.Core.Path.{refl}
use lib.Dec.{lit≤}
use lib.Ieee.{of_bits, round}
use Rattle.plain.specs.Doubles.{printed}
use Rattle.angle.proofs.Sides.{positive-of, infinite}
use Rattle.angle.proofs.remainder.beyond.Goals as goal

pub returns-then-x : goal.returns-then-x
unfolding of_bits
returns-then-x c = infinite c.args.x _ c.if-x.true

pub halved-requires : goal.halved-requires
unfolding of_bits round
halved-requires c = (positive-of c.args.x c.requires c.if-x.false, refl, lit≤ tt)

pub returns : goal.returns
unfolding printed round of_bits
returns c = c.halved.ensures
