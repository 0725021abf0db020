-- `sum_part` meets its contract: the part is lent, and summed. Assumes nothing.
use mathlib.Core.Path.{ap, ◌∙◌}
use native.Mathlib.Omega.{arith}
use lib.ListN.{length}
use Rattle.words.specs.Halves.{sum}
use Rattle.layout.proofs.Areas.{length_part}
use Rattle.removing.proofs.gap.sum_part.Goals as goal

pub sum_lower-requires : goal.sum_lower-requires
sum_lower-requires c =
    omega (arith, ap length c.part_of.ensures, length_part c.args.at c.args.n c.args.m.now c.requires.0)

pub returns : goal.returns
returns c = c.sum_lower.ensures ∙ ap sum c.part_of.ensures
