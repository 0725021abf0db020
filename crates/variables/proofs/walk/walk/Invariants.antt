-- `walk` meets its contract: the statements passed hold no direct assignment to the name, and the first that is met is the last of all.
-- Assumes nothing.
use mathlib.Core.Path.{◌≡◌}
use Prim.Native.Nat.{◌-◌, ◌≤◌}
use lib.ListN.{length, take}
use Rattle.words.specs.Halves.{sum}
use Rattle.layout.specs.Memory.{text_words}
use Rattle.variables.proofs.Names.{Hands}
use Rattle.variables.proofs.Passing.{Passed}
use Rattle.variables.proofs.walk.walk.Given as goal

-- within a text: its statements from s on are passed
abbrev pub invariant-loop-s : goal.invariant-loop-s
invariant-loop-s l = Hands l.fn.pool.words.now l.fn.name.bytes.now l.words l.heads l.names × (l.statement ≡ l.s) × (l.first ≤ l.s) × Passed l.fn.name.bytes.now l.fn.pool.words.now l.s l.value l.count l.strings

-- the last texts are passed
abbrev pub invariant-texts : goal.invariant-texts
invariant-texts l = Hands l.fn.pool.words.now l.fn.name.bytes.now l.words l.heads l.names × (l.statement ≡ sum (take (length (text_words l.fn.pool.words.now) - length l.yielded) (text_words l.fn.pool.words.now))) × Passed l.fn.name.bytes.now l.fn.pool.words.now l.statement l.value l.count l.strings
