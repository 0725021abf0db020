-- `gather` meets its contract: what is left to write makes, from the place reached on, the variable that is wanted. Assumes nothing.
use mathlib.Core.Path.{◌≡◌}
use Rattle.layout.specs.Memory.{value_words}
use Rattle.variables.proofs.Names.{Hands}
use Rattle.variables.proofs.Gathering.{Gathered}
use Rattle.variables.proofs.gather.gather.Given as goal

abbrev pub invariant-loop-s : goal.invariant-loop-s
invariant-loop-s l = Hands l.fn.pool.words.now l.fn.name.bytes.now l.words l.heads l.names × (l.values ≡ value_words l.fn.pool.words.now) × Gathered l.fn.name.bytes.now l.fn.pool.words.now l.initial.out l.out l.s l.value l.at
