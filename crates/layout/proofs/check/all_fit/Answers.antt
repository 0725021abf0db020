-- `all_fit` meets its contract: the statements left fit exactly when all do, since each one passed does; the heads left count values
-- that are left. Assumes nothing.
use mathlib.Core.Path.{sym, ◌∙◌}
use native.Mathlib.Omega.{arith}
use lib.ListN.{drop}
use Rattle.layout.proofs.Passing.{sum_left, fit_next, fit-stop, fit-end}
use Rattle.layout.proofs.check.all_fit.Goals as goal

pub slice_bounds-values_fit-end : goal.slice_bounds-values_fit-end
slice_bounds-values_fit-end c =
    let l = c.loop-head in
    let a = c.args in
    omega (arith, sum_left a.heads.now a.values.now l.head-index l.at _ c.loop-head-test.true c.value_count.ensures)

pub returns-then-not-values_fit : goal.returns-then-not-values_fit
returns-then-not-values_fit c =
    let l = c.loop-head in
    let a = c.args in
    fit-stop a.heads.now a.values.now l.head-index l.at _ c.loop-head-test.true c.value_count.ensures (sym c.values_fit.ensures ∙ c.if-not-values_fit.true) ∙ l.invariant.1

pub loop-head-preserved : goal.loop-head-preserved
loop-head-preserved c =
    let l = c.loop-head in
    let a = c.args in (
      omega (arith, sum_left a.heads.now a.values.now l.head-index l.at _ c.loop-head-test.true c.value_count.ensures),
      fit_next a.heads.now a.values.now l.head-index l.at _ c.loop-head-test.true c.value_count.ensures (sym c.values_fit.ensures ∙ c.if-not-values_fit.false) ∙ l.invariant.1,
    )

pub returns : goal.returns
returns c =
    let l = c.loop-head in
    let a = c.args in
    fit-end a.heads.now (drop l.at a.values.now) l.head-index l.auto.head-index-end c.loop-head-test.false ∙ l.invariant.1
