-- `remainder_of_turn` meets its contract: a negative double's remainder is that of its size, with the sign. Assumes nothing.
use mathlib.Core.Path.{ap, ◌∙◌}
use lib.Ieee.{binary64, of_bits, round, neg}
use Rattle.plain.specs.Doubles.{printed}
use Rattle.angle.specs.Wrap.{turn}
use Rattle.angle.proofs.Sides.{neg-rem, beyond-neg, itself}
use Rattle.angle.proofs.remainder.remainder_of_turn.Goals as goal

pub beyond-requires : goal.beyond-requires
unfolding printed round of_bits
beyond-requires c = c.if-x.true

pub beyond-requires-then-x-2 : goal.beyond-requires-then-x-2
unfolding printed round of_bits neg
beyond-requires-then-x-2 c = beyond-neg c.args.x c.if-x-2.true

pub returns-then-x-2 : goal.returns-then-x-2
returns-then-x-2 c = ap neg c.beyond-then-x-2.ensures ∙ neg-rem binary64 c.args.x turn

pub returns : goal.returns
unfolding printed round of_bits neg
returns c = itself c.args.x c.well_formed.0.1 c.if-x.false c.if-x-2.false
