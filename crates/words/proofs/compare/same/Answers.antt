-- `same` meets its contract: std's comparison of slices is `equal`. Assumes nothing.
use mathlib.Core.Path.{◌∙◌}
use Rattle.words.proofs.Chains.{pointwise-equal}
use Rattle.words.proofs.compare.same.Goals as goal

pub returns : goal.returns
returns c = c.eq.ensures ∙ pointwise-equal c.args.a.now c.args.b.now
