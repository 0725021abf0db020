-- `reply_face` meets its contract: each case of the reply is its number, line and column. Assumes nothing.
use mathlib.Core.Path.{sym, ap, ◌∙◌}
use Rattle.globe_c.specs.Faces.{reply_face}
use Rattle.globe_c.proofs.face.reply_face.Goals as goal

pub returns-in-Ok : goal.returns-in-Ok
returns-in-Ok c = ap reply_face (sym c.in-Ok.is)

pub returns-in-Err : goal.returns-in-Err
returns-in-Err c =
    (λ i. record { number = c.number.ensures i; line = c.narrow.ensures i; column = c.narrow-in-Err.ensures i })
    ∙ ap reply_face (sym c.in-Err.is)
