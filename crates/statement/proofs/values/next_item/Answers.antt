-- `next_item` meets its contract: each way out is one case of `item`. Assumes nothing.
use mathlib.Core.Path.{sym, ap, ◌∙◌}
use borrow.Author.Tests.{lt-ltb, le-ltb}
use Rattle.std.proofs.lemmas.Result.{err_from_is_err_and}
use Rattle.statement.specs.Values.{as_item, item}
use Rattle.statement.proofs.values.next_item.Goals as goal

pub returns-then-line-k : goal.returns-then-line-k
unfolding item
returns-then-line-k c = simp (sym c.past-k.ensures, le-ltb _ _ c.if-line-k.true)

pub returns-then-stands : goal.returns-then-stands
unfolding item
returns-then-stands c = simp (sym c.past-k.ensures, lt-ltb _ _ c.if-line-k.false, sym c.stands.ensures, c.if-stands.true)

pub returns-in_err-list_value : goal.returns-in_err-list_value
unfolding item
returns-in_err-list_value c =
    let p = err_from_is_err_and c.from_residual.result c.from_residual.ensures.1 in
    rw (p.1, p.2)
    (simp (sym c.past-k.ensures, lt-ltb _ _ c.if-line-k.false, sym c.stands.ensures, c.if-stands.false) (ap as_item (sym c.in_err-list_value.was ∙ c.list_value.ensures)))

pub returns : goal.returns
unfolding item
returns c =
    simp (sym c.past-k.ensures, lt-ltb _ _ c.if-line-k.false, sym c.stands.ensures, c.if-stands.false) (ap as_item (sym c.in_ok-list_value.was ∙ c.list_value.ensures))
