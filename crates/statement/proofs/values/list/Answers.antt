-- `list` meets its contract: each way out is one case of `list_end`, the counts standing for the items. Assumes nothing.
use native.Mathlib.Omega.{arith}
use mathlib.Core.Path.{ap, ◌∙◌}
use lib.ListN.{length}
use Rattle.std.specs.Prelude.{Err}
use Rattle.std.proofs.lemmas.Result.{err_from_is_err_and}
use Rattle.statement.specs.Values.{items}
use Rattle.statement.proofs.Pointed.{closes-within}
use Rattle.statement.proofs.Lists.{as_many, as_long, same_stop, list_on, list-empty, list-numbers, list-strings, list-faulty}
use Rattle.statement.proofs.values.list.Goals as goal

pub returns-in_err-k : goal.returns-in_err-k
returns-in_err-k c =
    let p = err_from_is_err_and c.from_residual.result c.from_residual.ensures.1 in
    rw (p.1, p.2) (list-faulty _ _ _ _ c.count_items-counted.ensures _ c.in_err-k.was)

pub returns-in_default : goal.returns-in_default
returns-in_default c = list_on _ _ _ _ c.count_items-counted.ensures (rw c.in_default.is at c.in_ok-k.was)

pub overflow_add-k : goal.overflow_add-k
overflow_add-k c =
    let b = c.args in
    omega (arith, closes-within b.line.now (length b.line.now) b.kind b.at _ (same_stop b.kind b.line.now b.at _ c.count_items-counted.ensures ∙ (rw c.in-Some.is at c.in_ok-k.was)))

pub overflow_add-k-in-Strings : goal.overflow_add-k-in-Strings
overflow_add-k-in-Strings c =
    let b = c.args in
    omega (arith, closes-within b.line.now (length b.line.now) b.kind b.at _ (same_stop b.kind b.line.now b.at _ c.count_items-counted.ensures ∙ (rw c.in-Some.is at c.in_ok-k.was)))

pub returns-in-Empty : goal.returns-in-Empty
returns-in-Empty c =
    ap Err c.at.ensures ∙ list-empty _ _ _ _ c.count_items-counted.ensures _ (rw c.in-Some.is at c.in_ok-k.was) c.in-Empty.is

pub returns-in-Numbers : goal.returns-in-Numbers
returns-in-Numbers c =
    let b = c.args in
    let e = c.count_items-counted.ensures in
    c.rest.ensures (items b.kind b.line.now b.at).values (as_many b.kind b.line.now b.at _ e) (as_long b.kind b.line.now b.at _ e)
    ∙ list-numbers _ _ _ _ e _ (rw c.in-Some.is at c.in_ok-k.was) c.in-Numbers.is

pub returns-in-Strings : goal.returns-in-Strings
returns-in-Strings c =
    let b = c.args in
    let e = c.count_items-counted.ensures in
    c.rest-in-Strings.ensures (items b.kind b.line.now b.at).values (as_many b.kind b.line.now b.at _ e) (as_long b.kind b.line.now b.at _ e)
    ∙ list-strings _ _ _ _ e _ (rw c.in-Some.is at c.in_ok-k.was) c.in-Strings.is
