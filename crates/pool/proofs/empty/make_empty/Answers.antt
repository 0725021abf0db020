-- `make_empty` meets its contract: the size decides, and then nothing is held. Assumes nothing.
use Rattle.pool.proofs.Emptying.{empty-refused, empty-done}
use Rattle.pool.proofs.empty.make_empty.Goals as goal

pub returns-then-pool-ne-WORDS : goal.returns-then-pool-ne-WORDS
returns-then-pool-ne-WORDS c = rw c.into.ensures (empty-refused c.args.pool.now c.if-pool-ne-WORDS.true)

pub returns : goal.returns
returns c =
    empty-done c.args.pool.now _ c.if-pool-ne-WORDS.false c.hold_nothing.ensures
