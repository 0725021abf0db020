-- `globe_close` meets its contract: the reply of the call and the memory that it leaves. Assumes nothing.
use mathlib.Core.Path.{ap, ◌∙◌}
use Rattle.globe_c.specs.Faces.{reply_face}
use Rattle.globe_c.proofs.globe_close.Goals as goal

pub returns : goal.returns
returns c = let call = c.close_text.ensures in record { shown = c.reply_face.ensures ∙ ap reply_face call.reply; left = call.memory }
