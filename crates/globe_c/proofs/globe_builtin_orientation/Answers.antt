-- `globe_builtin_orientation` meets its contract: the answer of the call. Assumes nothing.
use mathlib.Core.Path.{ap, ◌∙◌}
use Rattle.globe_c.specs.Faces.{oriented_face}
use Rattle.globe_c.proofs.globe_builtin_orientation.Goals as goal

pub returns : goal.returns
returns c = c.oriented_face.ensures ∙ ap oriented_face c.orientation.ensures.reply
