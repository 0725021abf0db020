-- `write_statement` meets its contract: a statement is opened and its values are given to it, or nothing is added. Assumes nothing.
use native.Mathlib.Omega.{arith}
use mathlib.Core.Path.{sym, ◌∙◌}
use Rattle.writing.proofs.Heads.{head-stands}
use Rattle.writing.proofs.Lines.{not-faulty, opened-ready, nothing-turns, statement-written}
use Rattle.writing.proofs.write.write_statement.Goals as goal

pub slice_bounds-open_statement-count : goal.slice_bounds-open_statement-count
slice_bounds-open_statement-count c =
    let h = head-stands _ c.in-Ok-Some.head (sym c.read_head.ensures ∙ (rw c.in-Ok-Some.field-0-is at c.in-Ok-Some.is)) in
    omega (arith, h.starts)

pub slice_bounds-open_statement-start : goal.slice_bounds-open_statement-start
slice_bounds-open_statement-start c =
    let h = head-stands _ c.in-Ok-Some.head (sym c.read_head.ensures ∙ (rw c.in-Ok-Some.field-0-is at c.in-Ok-Some.is)) in
    omega (arith, h.starts)

pub slice_bounds-open_statement-end-in-Ok-Some : goal.slice_bounds-open_statement-end-in-Ok-Some
slice_bounds-open_statement-end-in-Ok-Some c =
    let h = head-stands _ c.in-Ok-Some.head (sym c.read_head.ensures ∙ (rw c.in-Ok-Some.field-0-is at c.in-Ok-Some.is)) in
    omega (arith, h.ends)

pub give_values-requires : goal.give_values-requires
give_values-requires c =
    opened-ready _ _ _ _ _ _ _ c.requires c.open_statement-opened.ensures

pub returns-in-Ok-Some : goal.returns-in-Ok-Some
returns-in-Ok-Some c = λ s es e.
    let q = sym c.read_head.ensures ∙ (rw c.in-Ok-Some.field-0-is at c.in-Ok-Some.is) in
    statement-written _ _ s es _ c.requires c.told-m _ _ _ _ _ c.open_statement-opened.ensures c.give_values.ensures (rw q at e)

pub returns-in-Ok-None : goal.returns-in-Ok-None
returns-in-Ok-None c = λ s es e.
    nothing-turns _ _ s es _ (rw (sym c.read_head.ensures ∙ (rw c.in-Ok-None.field-0-is at c.in-Ok-None.is)) at e)

pub returns-in-Err : goal.returns-in-Err
returns-in-Err c = λ s es e. not-faulty _ _ s es (rw (sym c.read_head.ensures ∙ c.in-Err.is) at e)
