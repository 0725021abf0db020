-- `find_closing` meets its contract: the bytes counted so far and those left make all. Assumes nothing.
use Prim.Native.Nat.{◌+◌}
use native.Mathlib.Omega.{arith}
use mathlib.Core.Path.{refl, ◌∙◌}
use Rattle.plain.specs.Bytes.{QUOTE}
use Rattle.value.proofs.Scanning.{at-line-end, at_byte, at-quotes, at-quote}
use Rattle.value.proofs.Standing.{stands-within}
use Rattle.value.proofs.strings.find_closing.Goals as goal

pub loop-i-init : goal.loop-i-init
loop-i-init c = (omega arith, refl)

pub overflow_add-i-then-stands : goal.overflow_add-i-then-stands
overflow_add-i-then-stands c =
    omega (arith, stands-within QUOTE c.args.line.now (c.loop-i.i + 1) _ (omega arith) c.stands.ensures c.if-stands.true)

pub loop-i-preserved-then-stands : goal.loop-i-preserved-then-stands
loop-i-preserved-then-stands c =
    (omega arith, at-quotes _ _ _ c.loop-i-test.true c.if-line-i-eq39.true _ c.stands.ensures c.if-stands.true ∙ c.loop-i.invariant.1)

pub returns-else-stands : goal.returns-else-stands
returns-else-stands c =
    at-quote _ _ _ c.loop-i-test.true c.if-line-i-eq39.true _ c.stands.ensures c.if-stands.false ∙ c.loop-i.invariant.1

pub loop-i-preserved : goal.loop-i-preserved
loop-i-preserved c =
    (omega arith, at_byte _ _ _ c.loop-i-test.true c.if-line-i-eq39.false ∙ c.loop-i.invariant.1)

pub returns : goal.returns
returns c = at-line-end _ _ _ c.loop-i-test.false ∙ c.loop-i.invariant.1
