-- `stow` meets its contract: the word, and then the thirty words. Assumes nothing.
use Rattle.intake.proofs.Stowing.{stows}
use Rattle.intake.proofs.state.stow.Goals as goal

pub returns : goal.returns
returns c = let a = c.args in stows a.pool.now a.label a.b _ _ c.store.ensures c.write.ensures
