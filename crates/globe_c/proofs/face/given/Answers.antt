-- `given` meets its contract: the twelve numbers as they are. Assumes nothing.
use mathlib.Core.Path.{refl}
use Rattle.globe_c.specs.Faces.{oriented_face}
use Rattle.globe_c.proofs.face.given.Goals as goal

pub returns : goal.returns
unfolding oriented_face
returns c = refl
