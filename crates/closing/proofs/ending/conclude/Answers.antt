-- `conclude` meets its contract: the answer is that of the text at its end, and by it the text is held or shut. Assumes nothing.
use mathlib.Core.Path.{sym, ◌∙◌}
use Rattle.closing.proofs.Closing.{close-refused, close-done}
use Rattle.closing.proofs.ending.conclude.Goals as goal

pub hold-requires : goal.hold-requires
hold-requires c = record { found = c.requires; done = sym c.answer_of.ensures ∙ c.in-Ok.is }

pub returns-in-Ok : goal.returns-in-Ok
returns-in-Ok c = let u = c.requires.open-in in close-done _ u.undamaged u.opened (sym c.answer_of.ensures ∙ c.in-Ok.is) _ c.hold.ensures

pub returns-in-Err : goal.returns-in-Err
returns-in-Err c = let u = c.requires.open-in in close-refused _ u.undamaged u.opened _ (sym c.answer_of.ensures ∙ c.in-Err.is) _ c.store.ensures
