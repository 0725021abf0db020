-- `wrap` meets its contract: each way out is one clause of `lifted`, and `keep` does the rest. Assumes nothing.
use lib.Ieee.{of_bits, round}
use Rattle.plain.specs.Doubles.{printed}
use Rattle.angle.specs.Wrap.{wrapped}
use Rattle.angle.proofs.wrap.wrap.Goals as goal

pub returns-then-r : goal.returns-then-r
unfolding wrapped printed round of_bits
returns-then-r c = rw (← c.remainder_of_turn-r.ensures, c.if-r.true) c.keep.ensures

pub returns : goal.returns
unfolding wrapped printed round of_bits
returns c = rw (← c.remainder_of_turn-r.ensures, c.if-r.false) c.keep-2.ensures
