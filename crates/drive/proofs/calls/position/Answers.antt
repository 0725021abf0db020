-- `position` meets its contract: each way out is one of its cases, and the meridian that is given is in the turn. Assumes nothing.
use mathlib.Core.Path.{sym, ◌∙◌}
use Rattle.std.proofs.lemmas.Result.{err_from_is_err_and}
use Rattle.promises.proofs.Given.{in-range}
use Rattle.drive.proofs.Answers.{place-no-ring, place-refused, place_at}
use Rattle.drive.proofs.calls.position.Goals as goal

pub returns-then-not-is_ring : goal.returns-then-not-is_ring
returns-then-not-is_ring c = let a = c.args in place-no-ring a.source _ a.code a.epoch a.ring (sym c.is_ring.ensures ∙ c.if-not-is_ring.true)

pub returns-in_err-o : goal.returns-in_err-o
returns-in_err-o c =
    let a = c.args in
    let p = err_from_is_err_and c.from_residual.result c.from_residual.ensures.1 in
    rw (p.1, p.2)
    (place-refused a.source _ a.code a.epoch a.ring (sym c.is_ring.ensures ∙ c.if-not-is_ring.false) _ (sym c.orientation.ensures.reply ∙ c.in_err-o.was))

pub position_on-requires : goal.position_on-requires
position_on-requires c =
    let a = c.args in (
      sym c.is_ring.ensures ∙ c.if-not-is_ring.false,
      (in-range a.source _ a.code a.epoch c.in_ok-o.o (sym c.orientation.ensures.reply ∙ c.in_ok-o.was)).w,
    )

pub returns : goal.returns
returns c =
    let a = c.args in
    place_at a.source _ a.code a.epoch a.ring (sym c.is_ring.ensures ∙ c.if-not-is_ring.false)
    c.in_ok-o.o _ (sym c.orientation.ensures.reply ∙ c.in_ok-o.was) c.position_on.ensures
