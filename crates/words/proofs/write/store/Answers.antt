-- `store` meets its contract: a store is one word written over, and past the end nothing is written. Assumes nothing.
use mathlib.Core.Path.{sym}
use Rattle.words.proofs.Over.{over-one, over-past}
use Rattle.words.proofs.write.store.Goals as goal

pub returns-then-at-m : goal.returns-then-at-m
returns-then-at-m c = over-one _ _ _

pub returns-else-at-m : goal.returns-else-at-m
returns-else-at-m c = sym (over-past _ _ _ c.if-at-m.false)
