-- `fetched_face` meets its contract: each case of the answer is its number and count. Assumes nothing.
use mathlib.Core.Path.{sym, ap, ◌∙◌}
use Rattle.globe_c.specs.Faces.{fetched_face}
use Rattle.globe_c.proofs.face.fetched_face.Goals as goal

pub returns-in-Ok : goal.returns-in-Ok
returns-in-Ok c = (λ i. record { number = 0; line = 0; column = 0; count = c.narrow.ensures i }) ∙ ap fetched_face (sym c.in-Ok.is)

pub returns-in-Err : goal.returns-in-Err
returns-in-Err c = (λ i. record { number = c.number.ensures i; line = 0; column = 0; count = 0 }) ∙ ap fetched_face (sym c.in-Err.is)
