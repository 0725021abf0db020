-- `locate` meets its contract: the value that is wanted is always in a statement that is not passed yet. Assumes nothing.
use Rattle.variables.proofs.Names.{Hands}
use Rattle.variables.proofs.Seeking.{Sought}
use Rattle.variables.proofs.spot.locate.Given as goal

abbrev pub invariant-loop-s : goal.invariant-loop-s
invariant-loop-s l = Hands l.fn.pool.words.now l.fn.name.bytes.now l.words l.heads l.names × Sought l.fn.name.bytes.now l.fn.pool.words.now l.place l.s l.value l.index
