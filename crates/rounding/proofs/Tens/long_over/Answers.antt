-- `long_over` meets its contract: the leading digits of the quotient and whether anything is left, put in their place, round as the number does. Assumes nothing.
use mathlib.Core.Path.{◌∙◌}
use native.Mathlib.Omega.{arith}
use Rattle.rounding.proofs.Leading.{fives-fit, least-over, rounds-over}
use Rattle.rounding.proofs.Tens.long_over.Goals as goal

pub room-b-requires : goal.room-b-requires
room-b-requires c = omega (arith, fives-fit c.args.self.small c.five-n.ensures)

pub pack-requires : goal.pack-requires
pack-requires c =
    (rw c.quotient.ensures (least-over c.args.self.small c.five-n.ensures c.room-a.ensures c.room-b.ensures), omega arith)

pub returns : goal.returns
returns c =
    c.pack.ensures ∙ rw c.quotient.ensures (rounds-over c.args.self.small c.five-n.ensures c.room-a.ensures c.room-b.ensures)
