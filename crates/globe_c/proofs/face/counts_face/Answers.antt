-- `counts_face` meets its contract: each case of the answer is its number and totals. Assumes nothing.
use mathlib.Core.Path.{sym, ap, ◌∙◌}
use Rattle.globe_c.specs.Faces.{counts_face}
use Rattle.globe_c.proofs.face.counts_face.Goals as goal

pub returns-in-Ok : goal.returns-in-Ok
returns-in-Ok c = (λ i. record { number = 0; line = 0; column = 0; texts = c.narrow.ensures i; statements = c.narrow-in-Ok.ensures i; values = c.narrow-in-Ok-2.ensures i }) ∙ ap counts_face (sym c.in-Ok.is)

pub returns-in-Err : goal.returns-in-Err
returns-in-Err c = (λ i. record { number = c.number.ensures i; line = 0; column = 0; texts = 0; statements = 0; values = 0 }) ∙ ap counts_face (sym c.in-Err.is)
