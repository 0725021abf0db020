-- `store_string` meets its contract: the string's bytes and its length are stored where the pen stands. Assumes nothing.
use Rattle.page.proofs.store.store_string.Goals as goal

pub returns : goal.returns
returns c =
    rw (c.store.ensures, c.write_string.ensures, c.requires.1.bytes)
