-- `refused` meets its contract: the number, and zeros. Assumes nothing.
use lib.Ieee.{of_bits, round}
use Rattle.plain.specs.Doubles.{printed, nought}
use Rattle.globe_c.specs.Faces.{oriented_face}
use Rattle.globe_c.proofs.face.refused.Goals as goal

pub returns : goal.returns
unfolding oriented_face printed round of_bits
returns c = λ i. record { number = c.number.ensures i; line = 0; column = 0; ra = nought; dec = nought; w = nought; m11 = nought; m12 = nought; m13 = nought; m21 = nought; m22 = nought; m23 = nought; m31 = nought; m32 = nought; m33 = nought }
