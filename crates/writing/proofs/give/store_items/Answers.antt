-- `store_items` meets its contract: what is left to store onto this page is what was to be stored onto the first. Assumes nothing.
use Prim.Native.Nat.{ℕ, ◌+◌, ◌-◌, ◌<◌}
use native.Mathlib.Omega.{arith}
use mathlib.Core.Path.{◌≡◌, sym, ap, ◌∙◌}
use lib.ListN.{length}
use Rattle.std.specs.Prelude.{Ok, Err}
use Rattle.value.specs.Value.{value_of}
use Rattle.statement.specs.declared.values.Item.TheVariants as I
use Rattle.statement.proofs.Found.{item-long}
use Rattle.writing.proofs.Storing.{found-item, short-item, none_left, next-left, stretches, at_last, one_more}
use Rattle.writing.proofs.give.store_items.Goals as goal

pub returns-in-Ok-End : goal.returns-in-Ok-End
returns-in-Ok-End c =
    at_last _ _ _ _ _ _ _ _ _ _ _ c.loop-given.invariant _
    (next-left _ _ _ _ (omega (arith, c.loop-given-test.true)) _ c.next_item.ensures (Ok I.End) (rw c.in-Ok-End.field-0-is at c.in-Ok-End.is)) _ c.stopped.ensures

pub returns-in-Ok-Close : goal.returns-in-Ok-Close
returns-in-Ok-Close c =
    at_last _ _ _ _ _ _ _ _ _ _ _ c.loop-given.invariant _
    (next-left _ _ _ _ (omega (arith, c.loop-given-test.true)) _ c.next_item.ensures (Ok (I.Close _)) (rw c.in-Ok-Close.field-0-is at c.in-Ok-Close.is)) _ c.stopped-in-Ok-Close.ensures

pub returns-in-Err : goal.returns-in-Err
returns-in-Err c =
    at_last _ _ _ _ _ _ _ _ _ _ _ c.loop-given.invariant _
    (next-left _ _ _ _ (omega (arith, c.loop-given-test.true)) _ c.next_item.ensures (Err _) c.in-Err.is) _ c.stopped-in-Err.ensures

pub store_word-last-requires : goal.store_word-last-requires
store_word-last-requires c =
    let q = rw c.in-Ok-Value.field-0-is at c.in-Ok-Value.is in
    (stretches _ _ _ _ _ _ _ _ _ _ _ c.loop-given.invariant c.requires.long, found-item _ _ _ _ (sym c.next_item.ensures ∙ q))

pub overflow_add-bytes : goal.overflow_add-bytes
overflow_add-bytes c =
    let q = rw c.in-Ok-Value.field-0-is at c.in-Ok-Value.is in
    omega (arith, c.loop-given.invariant.short, c.loop-given.invariant.few, c.requires.long, c.long-bytes.ensures, short-item _ _ _ _ (sym c.next_item.ensures ∙ q))

pub loop-given-preserved : goal.loop-given-preserved
loop-given-preserved c =
    let l = c.loop-given in
    let line = c.args.line.now in
    let n = length line in
    let q = rw c.in-Ok-Value.field-0-is at c.in-Ok-Value.is in
    let e = sym c.next_item.ensures ∙ q in
    let b = item-long _ _ _ _ e in
    let z : n - (l.given + 1) ≡ n - l.given - 1 = omega arith in
    let t : 0 < n - l.given = omega (arith, c.loop-given-test.true) in
    rw (z, c.kind_of-kind.ensures, c.end-i.ensures)
    (one_more _ _ _ _ _ _ _ _ _ _ _ c.loop-given.invariant (value_of line c.in-Ok-Value.word) _ _ t (next-left _ _ _ _ t _ c.next_item.ensures (Ok (I.Value _)) q)
    _ (ap (λ (k : ℕ). l.bytes + k) (c.long-bytes.ensures ∙ sym b)) (omega (arith, b, short-item _ _ _ _ e)) _ _ c.store_word-last.ensures)

pub returns : goal.returns
returns c =
    let l = c.loop-given in
    let n = length c.args.line.now in
    let z : l.given ≡ n = omega (arith, c.loop-given-test.false) in
    at_last _ _ _ _ _ _ _ l.given _ _ _ c.loop-given.invariant _ (none_left _ _ _ (n - l.given) (omega arith)) _ (rw z c.stopped-2.ensures)
