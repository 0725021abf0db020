-- `store_number` meets its contract: the number's bits are stored where the pen stands. Assumes nothing.
use Rattle.page.proofs.store.store_number.Goals as goal

pub returns : goal.returns
returns c = rw c.store.ensures
