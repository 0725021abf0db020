-- `put` meets its contract: the part that is lent comes back as it was copied. Assumes nothing.
use mathlib.Core.Path.{◌≡◌, ap, ◌∙◌}
use lib.ListN.{length}
use Rattle.words.specs.Over.{over}
use Rattle.words.proofs.Over.{put_back}
use Rattle.words.proofs.write.put.Goals as goal

pub returns : goal.returns
returns g c =
    let a = c.args in
    let e : c.copy_from_slice.new.self ≡ a.ws.now = c.copy_from_slice.ensures.after in
    put_back a.at (length a.ws.now) _ a.m.now c.requires (ap length e) ∙ ap (λ x. over a.at x a.m.now) e
