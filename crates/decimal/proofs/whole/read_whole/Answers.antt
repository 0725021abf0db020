-- `read_whole` meets its contract: the places that it passes are where the definition takes the digits and the point off the front.
-- Assumes nothing.
use mathlib.Core.Logic.{inl, inr}
use native.Mathlib.Omega.{arith}
use borrow.Author.Tests.{lt-ltb, le-ltb}
use Rattle.decimal.proofs.Places.{digits-count, digits-within}
use Rattle.decimal.proofs.Pointed.{NoPoint, pointed-none, pointed-some}
use Rattle.decimal.proofs.whole.read_whole.Goals as goal
use Rattle.decimal.proofs.whole.read_whole.Goals.{Joined-point-value, then-point-value+else-value-point-eq46, else-point-value}

pub overflow_add-at : goal.overflow_add-at
overflow_add-at c = omega (arith, digits-count c.read_digits-before.ensures)

pub overflow_sub-result : goal.overflow_sub-result
overflow_sub-result c = omega (arith, digits-count c.read_digits-after.ensures)

pub returns-then-end-at : goal.returns-then-end-at
returns-then-end-at c = record {
  worth = λ m. rw (le-ltb _ _ c.if-end-at.true) at (pointed-some c.read_digits-before.ensures m c.if-point-value.true c.if-value-point-eq46.true c.read_digits-after.ensures);
  within = tt;
}

pub returns-then-value-point-eq46 : goal.returns-then-value-point-eq46
returns-then-value-point-eq46 c = record {
  worth = λ m. rw (lt-ltb _ _ c.if-end-at.false) at (pointed-some c.read_digits-before.ensures m c.if-point-value.true c.if-value-point-eq46.true c.read_digits-after.ensures);
  within = digits-within c.read_digits-after.ensures;
}

no-point : (c : Joined-point-value) → NoPoint c.args.value.now c.read_digits-before.result.end
no-point c =
    elim c.if-point-value.branch [ then-point-value+else-value-point-eq46 w ↦ inr (w.if-point-value.true, w.if-value-point-eq46.false) | else-point-value w ↦ inl w.if-point-value.false ]

pub returns-then-point-at : goal.returns-then-point-at
returns-then-point-at c = record {
  worth = λ m. rw (le-ltb _ _ c.if-point-at.true) at (pointed-none c.read_digits-before.ensures m (no-point (goal.at.returns-then-point-at c).Joined-point-value));
  within = tt;
}

pub returns : goal.returns
returns c = record {
  worth = λ m. rw (lt-ltb _ _ c.if-point-at.false) at (pointed-none c.read_digits-before.ensures m (no-point (goal.at.returns c).Joined-point-value));
  within = omega arith;
}
