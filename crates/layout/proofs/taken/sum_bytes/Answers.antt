-- `sum_bytes` meets its contract: what is summed and what is left to sum are the whole sum, which fits a word; the heads left count
-- values that are left. Assumes nothing.
use native.Mathlib.Omega.{arith}
use lib.ListN.{drop}
use Rattle.layout.proofs.Passing.{sum_left, total-next, total-end, total-most}
use Rattle.layout.proofs.taken.sum_bytes.Goals as goal

pub slice_bounds-bytes_taken-end : goal.slice_bounds-bytes_taken-end
slice_bounds-bytes_taken-end c =
    let l = c.loop-head in
    let a = c.args in
    omega (arith, sum_left a.heads.now a.values.now l.head-index l.at _ c.loop-head-test.true c.value_count.ensures)

pub overflow_add-total : goal.overflow_add-total
overflow_add-total c =
    let l = c.loop-head in
    let a = c.args in
    omega (arith, c.bytes_taken-total.ensures, total-next a.heads.now a.values.now l.head-index l.at _ c.loop-head-test.true c.value_count.ensures, l.invariant.1, total-most a.heads.now a.values.now c.requires.within, c.requires.few)

pub loop-head-preserved : goal.loop-head-preserved
loop-head-preserved c =
    let l = c.loop-head in
    let a = c.args in (
      omega (arith, sum_left a.heads.now a.values.now l.head-index l.at _ c.loop-head-test.true c.value_count.ensures),
      omega (arith, c.bytes_taken-total.ensures, total-next a.heads.now a.values.now l.head-index l.at _ c.loop-head-test.true c.value_count.ensures, l.invariant.1),
    )

pub returns : goal.returns
returns c =
    let l = c.loop-head in
    let a = c.args in
    omega (arith, total-end a.heads.now (drop l.at a.values.now) l.head-index l.auto.head-index-end c.loop-head-test.false, l.invariant.1)
