-- `feed_text` meets its contract: the tests are asked first, and then the open text is found, fed and written back. Assumes nothing.
use native.Mathlib.Omega.{arith}
use mathlib.Core.Path.{sym}
use Rattle.pool.proofs.Tested.{passed_on, open-sound, open-opens}
use Rattle.intake.proofs.Answers.{feed-unready, feed-done}
use Rattle.intake.proofs.Finding.{behind-of, opened_of}
use Rattle.intake.proofs.Stowing.{label-short, stowable-fed, fed-stowed}
use Rattle.intake.proofs.parts.feed_text.Goals as goal

pub returns-in_err-test_open : goal.returns-in_err-test_open
returns-in_err-test_open c = rw (passed_on c.from_residual.result c.from_residual.ensures.1) (feed-unready _ _ _ (sym c.in_err-test_open.ensures))

pub label_in-label-requires : goal.label_in-label-requires
label_in-label-requires c = behind-of _ (open-sound _ (sym c.in_ok-test_open.ensures))

pub open_in-before-requires : goal.open_in-before-requires
open_in-before-requires c = opened_of _ (open-sound _ (sym c.in_ok-test_open.ensures)) (open-opens _ (sym c.in_ok-test_open.ensures))

pub stow-requires : goal.stow-requires
stow-requires c = stowable-fed _ _ _ (label-short c.args.pool.now _ (λ i. omega (arith, c.slice_known-1.given i)) c.label_in-label.ensures) c.via-after.ensures.fine

pub returns : goal.returns
returns c = feed-done _ _ (sym c.in_ok-test_open.ensures) _ (fed-stowed c.args.pool.now c.args.part.now _ c.open_in-before.ensures _ _ c.via-after.ensures _ c.label_in-label.ensures _ c.stow.ensures)
