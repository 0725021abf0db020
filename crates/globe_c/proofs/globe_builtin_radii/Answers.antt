-- `globe_builtin_radii` meets its contract: the answer of the call. Assumes nothing.
use mathlib.Core.Path.{ap, ◌∙◌}
use Rattle.globe_c.specs.Faces.{axes_face}
use Rattle.globe_c.proofs.globe_builtin_radii.Goals as goal

pub returns : goal.returns
returns c = c.axes_face.ensures ∙ ap axes_face c.radii.ensures.reply
