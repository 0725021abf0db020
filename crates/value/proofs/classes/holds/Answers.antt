-- `holds` meets its contract: each way out is one case of `bit`. Assumes nothing.
use borrow.Author.Tests.{lt-ltb, le-ltb}
use Rattle.value.specs.Masks.{bit}
use Rattle.value.proofs.classes.holds.Goals as goal

pub returns-then-b-lt64 : goal.returns-then-b-lt64
unfolding bit
returns-then-b-lt64 c = simp (lt-ltb _ _ c.if-b-lt64.true)

pub returns-then-b-lt128 : goal.returns-then-b-lt128
unfolding bit
returns-then-b-lt128 c = simp (le-ltb _ _ c.if-b-lt64.false, lt-ltb _ _ c.if-b-lt128.true)

pub returns : goal.returns
unfolding bit
returns c = simp (le-ltb _ _ c.if-b-lt64.false, le-ltb _ _ c.if-b-lt128.false)
