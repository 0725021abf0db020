-- `hold_place` meets its contract: a number is stored, and told to the head. Assumes nothing.
use mathlib.Core.Path.{ap, ◌∙◌}
use mathlib.Core.Bool.{false}
use Rattle.page.specs.Writing.{Page, stored_all, told_on}
use Rattle.entering.proofs.write.hold_place.Goals as goal

pub returns : goal.returns
unfolding stored_all
returns c =
    ap (λ (x : Page). x.memory) (c.tell.ensures ∙ ap (told_on false 1) c.store_number-stored.ensures)
