-- `globe_fetch` meets its contract: the answer of the call and the buffer that it leaves. Assumes nothing.
use mathlib.Core.Path.{ap, ◌∙◌}
use Rattle.globe_c.specs.Faces.{fetched_face}
use Rattle.globe_c.proofs.globe_fetch.Goals as goal

pub returns : goal.returns
returns c = let call = c.fetch.ensures in record { shown = c.fetched_face.ensures ∙ ap fetched_face call.reply; left = call.buffer }
