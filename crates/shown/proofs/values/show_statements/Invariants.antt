-- `show_statements` meets its contract: the lines written and those of the statements that are left are the variable's. Assumes nothing.
use Rattle.variables.proofs.Names.{Hands}
use Rattle.shown.proofs.Told.{Told}
use Rattle.shown.proofs.values.show_statements.Given as goal

abbrev pub invariant-loop-s : goal.invariant-loop-s
invariant-loop-s l = Hands l.fn.pool.words.now l.fn.name.bytes.now l.words l.heads l.names × Told l.fn.name.bytes.now l.fn.pool.words.now l.at l.initial.out l.s l.value l.end l.out
