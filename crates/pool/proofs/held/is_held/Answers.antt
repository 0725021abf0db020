-- `is_held` meets its contract: the label is found among the texts' words exactly when it is held. Assumes nothing.
use Rattle.pool.proofs.Labels.{held-found}
use Rattle.pool.proofs.held.is_held.Goals as goal

pub returns : goal.returns
returns c = rw (c.is_some.ensures, c.place_of.ensures, c.texts_of.ensures) (held-found _ _)
