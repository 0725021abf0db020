-- `count_items` meets its contract: the values counted so far and the items left to count make all. Assumes nothing.
use Prim.Native.Nat.{◌+◌, ◌-◌}
use native.Mathlib.Omega.{arith}
use mathlib.Core.Path.{◌≡◌, sym, ◌∙◌}
use lib.ListN.{length}
use Rattle.statement.specs.Values.{items}
use Rattle.statement.proofs.Found.{value-on, value-stays}
use Rattle.statement.proofs.Items.{none_yet, at_last, at-end, at-close, at-fault, at-value}
use Rattle.statement.proofs.values.count_items.Goals as goal

pub loop-given-init : goal.loop-given-init
loop-given-init c =
    let z : length c.args.line.now - 0 ≡ length c.args.line.now = omega arith in
    record { within = omega arith; all = rw z (none_yet (items c.args.kind c.args.line.now c.args.at)) }

pub returns-in-Ok-End : goal.returns-in-Ok-End
returns-in-Ok-End c =
    c.stopped.ensures ∙ at-end _ _ _ _ _ _ (omega (arith, c.loop-given-test.true)) _ c.next_item.ensures (rw c.in-Ok-End.field-0-is at c.in-Ok-End.is) ∙ c.loop-given.invariant.all

pub returns-in-Ok-Close : goal.returns-in-Ok-Close
returns-in-Ok-Close c =
    c.stopped-in-Ok-Close.ensures
    ∙ at-close _ _ _ _ _ _ (omega (arith, c.loop-given-test.true)) _ c.next_item.ensures _ (rw c.in-Ok-Close.field-0-is at c.in-Ok-Close.is)
    ∙ c.loop-given.invariant.all

pub returns-in-Err : goal.returns-in-Err
returns-in-Err c =
    c.stopped-in-Err.ensures ∙ at-fault _ _ _ _ _ _ (omega (arith, c.loop-given-test.true)) _ c.next_item.ensures _ c.in-Err.is ∙ c.loop-given.invariant.all

pub loop-given-preserved : goal.loop-given-preserved
loop-given-preserved c =
    let l = c.loop-given in
    let n = length c.args.line.now in
    let q = rw c.in-Ok-Value.field-0-is at c.in-Ok-Value.is in
    let z : n - (l.given + 1) ≡ n - l.given - 1 = omega arith in
    record {
      within = omega (arith, value-on _ _ _ _ (sym c.next_item.ensures ∙ q), c.loop-given.invariant.within, c.long-bytes.ensures, c.end-i.ensures);
      all =
          rw (z, c.kind_of-kind.ensures, c.end-i.ensures, c.long-bytes.ensures)
          (at-value l.given l.bytes c.args.line.now l.kind l.i (n - l.given) (omega (arith, c.loop-given-test.true)) _ c.next_item.ensures _ q ∙ c.loop-given.invariant.all);
    }

pub overflow_add-bytes : goal.overflow_add-bytes
overflow_add-bytes c =
    let q = rw c.in-Ok-Value.field-0-is at c.in-Ok-Value.is in
    omega (arith, value-stays _ _ _ _ (sym c.next_item.ensures ∙ q) c.loop-given.bytes c.loop-given.invariant.within, c.long-bytes.ensures)

pub returns : goal.returns
returns c =
    let l = c.loop-given in
    let n = length c.args.line.now in
    let z : l.given ≡ n = omega (arith, c.loop-given-test.false) in
    c.stopped-2.ensures ∙ (rw z at (at_last l.given l.bytes c.args.line.now l.kind l.i (n - l.given) (omega arith) ∙ c.loop-given.invariant.all))
