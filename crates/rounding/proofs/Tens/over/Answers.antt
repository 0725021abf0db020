-- `over` meets its contract: up to 2^53 one operation rounds once. Assumes nothing.
use mathlib.Core.Path.{ap, ◌∙◌}
use lib.Ieee.{Float}
use Rattle.plain.specs.Doubles.{◌⊘◌}
use Rattle.rounding.specs.Exact.{double}
use Rattle.rounding.proofs.Exact.{over-once}
use Rattle.rounding.proofs.Tens.over.Goals as goal

pub returns-then-w-le-LARGEST : goal.returns-then-w-le-LARGEST
returns-then-w-le-LARGEST c =
    ap (λ (ten : Float). double c.args.w ⊘ ten) c.power.ensures ∙ over-once c.args.self.k c.args.self.small c.args.w c.if-w-le-LARGEST.true
