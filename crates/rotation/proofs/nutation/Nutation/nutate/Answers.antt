-- `nutate` meets its contract: the loop keeps the sums at term i, and every term has its angle. Assumes nothing.
use mathlib.Core.Path.{ap, ◌∙◌}
use native.Mathlib.Omega.{arith}
use Rattle.angle.specs.Sine.{sine_cosine}
use Rattle.rotation.proofs.Terms.{no-terms, more-terms, all-terms}
use Rattle.rotation.proofs.nutation.Nutation.nutate.Goals as goal

pub loop-i-init : goal.loop-i-init
loop-i-init c = no-terms _ _ _ _ _ _ _

pub loop-i-preserved : goal.loop-i-preserved
loop-i-preserved c =
    more-terms _ _ _ _ _ _ _ _ _ _ _ c.loop-i.invariant (c.sine_cosine-pair.ensures ∙ ap sine_cosine c.nest.ensures) c.add_terms-sums.ensures

pub returns : goal.returns
returns c = all-terms _ _ _ _ _ _ _ _ _ c.loop-i.invariant (omega arith) (omega arith) (omega arith)
