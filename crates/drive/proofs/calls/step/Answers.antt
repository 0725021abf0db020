-- `step` meets its contract: each way out is one of its cases; the target is the position, and the move leads there. Assumes nothing.
use mathlib.Core.Path.{sym, ◌∙◌}
use mir.Syntax.{w32}
use mir.ValLaws.{to_z-of_z}
use Rattle.std.proofs.lemmas.Result.{err_from_is_err_and}
use Rattle.drive.proofs.Positions.{bounds}
use Rattle.drive.proofs.Answers.{place-below, step-no-ring, step-no-position, step-refused, step-to}
use Rattle.drive.proofs.calls.step.Goals as goal

pub returns-then-not-is_ring : goal.returns-then-not-is_ring
returns-then-not-is_ring c = let a = c.args in step-no-ring a.source _ a.code a.epoch a.ring a.present (sym c.is_ring.ensures ∙ c.if-not-is_ring.true)

pub returns-then-ring-present : goal.returns-then-ring-present
returns-then-ring-present c =
    let a = c.args in
    step-no-position a.source _ a.code a.epoch a.ring a.present (sym c.is_ring.ensures ∙ c.if-not-is_ring.false) c.if-ring-present.true

pub returns-in_err-target : goal.returns-in_err-target
returns-in_err-target c =
    let a = c.args in
    let e = sym c.is_ring.ensures ∙ c.if-not-is_ring.false in
    let p = err_from_is_err_and c.from_residual.result c.from_residual.ensures.1 in
    rw (p.1, p.2)
    (step-refused a.source _ a.code a.epoch a.ring a.present e c.if-ring-present.false _ (rw c.in_err-target.was at c.position.ensures))

pub move_between-way-requires : goal.move_between-way-requires
move_between-way-requires c =
    let a = c.args in
    let e = sym c.is_ring.ensures ∙ c.if-not-is_ring.false in (
      (bounds a.ring e).most,
      (
        c.if-ring-present.false,
        place-below a.source _ a.code a.epoch a.ring e c.in_ok-target.target (rw c.in_ok-target.was at c.position.ensures),
      ),
    )

pub returns : goal.returns
returns c =
    let a = c.args in
    let e = sym c.is_ring.ensures ∙ c.if-not-is_ring.false in
    let m = c.move_between-way in
    rw (to_z-of_z w32 m.result (record { sfits = m.type_inv }))
    (step-to a.source _ a.code a.epoch a.ring a.present e c.if-ring-present.false c.in_ok-target.target m.result
    (rw c.in_ok-target.was at c.position.ensures) m.ensures)
