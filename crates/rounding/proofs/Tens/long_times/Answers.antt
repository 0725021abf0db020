-- `long_times` meets its contract: the leading digits of the product and whether anything is left, put in their place, round as the number does. Assumes nothing.
use mathlib.Core.Path.{◌∙◌}
use native.Mathlib.Omega.{arith}
use Rattle.rounding.proofs.Leading.{fives-fit, least-times, rounds-times}
use Rattle.rounding.proofs.Tens.long_times.Goals as goal

pub room-b-requires : goal.room-b-requires
room-b-requires c = omega (arith, fives-fit c.args.self.small c.five-n.ensures)

pub pack-requires : goal.pack-requires
pack-requires c =
    (rw c.product.ensures (least-times c.args.self.small c.five-n.ensures c.room-a.ensures c.room-b.ensures), omega arith)

pub returns : goal.returns
returns c =
    c.pack.ensures ∙ rw c.product.ensures (rounds-times c.args.self.small c.five-n.ensures c.room-a.ensures c.room-b.ensures)
