-- `axes_face` meets its contract: the three radii, or the number and zeros. Assumes nothing.
use mathlib.Core.Path.{sym, ap, ◌∙◌}
use lib.Ieee.{of_bits, round}
use Rattle.plain.specs.Doubles.{printed, nought}
use Rattle.globe_c.specs.Faces.{axes_face}
use Rattle.globe_c.proofs.face.axes_face.Goals as goal

pub returns-in-Err : goal.returns-in-Err
unfolding axes_face printed round of_bits
returns-in-Err c = (λ i. record { number = c.number.ensures i; line = 0; column = 0; a = nought; b = nought; c = nought }) ∙ ap axes_face (sym c.in-Err.is)
