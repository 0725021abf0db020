-- `open_text` meets its contract: the tests are asked first, then whether the label is held, and then the words of a text of which nothing came are written. Assumes nothing.
use native.Mathlib.Omega.{arith}
use mathlib.Core.Path.{sym, ◌∙◌}
use Rattle.layout.proofs.Sound.{sound-of}
use Rattle.pool.proofs.Tested.{passed_on, closed-sound}
use Rattle.intake.proofs.Answers.{open-unready, open-held, open_done}
use Rattle.intake.proofs.Stowing.{stowable-begun, begun-stowed}
use Rattle.intake.proofs.begin.open_text.Goals as goal

pub returns-in_err-test_closed : goal.returns-in_err-test_closed
returns-in_err-test_closed c = rw (passed_on c.from_residual.result c.from_residual.ensures.1) (open-unready _ _ _ (sym c.in_err-test_closed.ensures))

pub is_held-requires : goal.is_held-requires
is_held-requires c = (sound-of _ (closed-sound _ (sym c.in_ok-test_closed.ensures))).sizes

pub returns-then-is_held : goal.returns-then-is_held
returns-then-is_held c = rw c.into.ensures (open-held _ _ (sym c.in_ok-test_closed.ensures) (sym c.is_held.ensures ∙ c.if-is_held.true))

pub stow-requires : goal.stow-requires
stow-requires c = stowable-begun _ _ _ (closed-sound _ (sym c.in_ok-test_closed.ensures)) (omega (arith, c.ranges.label)) c.beginning.ensures

pub returns : goal.returns
returns c = open_done _ _ (sym c.in_ok-test_closed.ensures) (sym c.is_held.ensures ∙ c.if-is_held.false) _ (begun-stowed c.args.pool.now c.args.label _ c.beginning.ensures _ c.stow.ensures)
