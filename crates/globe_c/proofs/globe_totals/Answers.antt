-- `globe_totals` meets its contract: the answer of the call. Assumes nothing.
use mathlib.Core.Path.{ap, ◌∙◌}
use Rattle.globe_c.specs.Faces.{counts_face}
use Rattle.globe_c.proofs.globe_totals.Goals as goal

pub returns : goal.returns
returns c = c.counts_face.ensures ∙ ap counts_face c.totals.ensures.reply
