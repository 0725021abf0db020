-- `give_values` meets its contract: what stands after the operator is a list, or a value that is stored and told. Assumes nothing.
use native.Mathlib.Omega.{arith}
use mathlib.Core.Path.{sym, ◌∙◌}
use Rattle.plain.specs.Bytes.{OPEN}
use Rattle.value.proofs.Standing.{stands-within}
use Rattle.value.specs.Value.{value_of}
use Rattle.page.specs.Writing.{page}
use Rattle.writing.proofs.Storing.{found-value}
use Rattle.writing.proofs.Giving.{ready-stretches, stored-head, one-tells, word-turns, at_bracket, no_value}
use Rattle.writing.proofs.give.give_values.Goals as goal

pub overflow_add-at : goal.overflow_add-at
overflow_add-at c =
    let a = c.args in
    omega (arith, stands-within OPEN a.line.now a.at _ (omega arith) c.stands.ensures c.if-stands.true)

pub returns-then-stands : goal.returns-then-stands
returns-then-stands c = λ s vs e.
    c.give_list.ensures s vs (at_bracket _ _ s vs (sym c.stands.ensures ∙ c.if-stands.true) e)

pub returns-in_default : goal.returns-in_default
returns-in_default c = λ s vs e.
    no_value _ _ _ s vs (sym c.stands.ensures ∙ c.if-stands.false) (sym c.read_value.ensures ∙ c.in_default.is) e

pub store_word-stored-requires : goal.store_word-stored-requires
store_word-stored-requires c =
    (ready-stretches _ _ c.requires, found-value _ _ _ (sym c.read_value.ensures ∙ c.in-Ok.is))

pub tell-requires : goal.tell-requires
tell-requires c =
    let h = stored-head (value_of c.args.line.now c.in-Ok.word) (page c.args.m.now c.args.pen) in
    one-tells _ _ _ _ _ c.requires c.store_word-stored.ensures h.0 h.1

pub returns : goal.returns
returns c =
    word-turns _ _ _ _ _ _ _ _ _ (sym c.stands.ensures ∙ c.if-stands.false) (sym c.read_value.ensures ∙ c.in-Ok.is) c.store_word-stored.ensures
    (rw c.kind_of.ensures at c.tell.ensures)
