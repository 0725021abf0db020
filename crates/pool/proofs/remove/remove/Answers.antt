-- `remove` meets its contract: the tests are asked first, and then whether the label has a place, and then its text is taken out. Assumes nothing.
use mathlib.Core.Path.{sym, ap, subst, ◌∙◌}
use Prim.Native.Nat.{ℕ}
use native.Mathlib.Omega.{arith}
use Rattle.std.specs.Option.{is_some}
use Rattle.words.specs.Halves.{found}
use Rattle.words.proofs.Chains.{found-within, found-beyond}
use Rattle.words.proofs.Each.{words_of}
use Rattle.layout.proofs.Areas.{length-texts}
use Rattle.layout.proofs.Sound.{framed, sound-of}
use Rattle.removing.specs.Gaps.{Gapped, taken_out}
use Rattle.pool.proofs.Labels.{found-place}
use Rattle.pool.proofs.Removing.{remove-refused, remove-missing, remove-done, gapped-here}
use Rattle.pool.proofs.Tested.{passed_on, closed-sound}
use Rattle.pool.proofs.remove.remove.Goals as goal

pub returns-in_err-test_closed : goal.returns-in_err-test_closed
returns-in_err-test_closed c = rw (passed_on c.from_residual.result c.from_residual.ensures.1) (remove-refused c.args.label c.args.pool.now _ (sym c.in_err-test_closed.ensures))

pub texts_of-requires : goal.texts_of-requires
texts_of-requires c = framed _ (closed-sound _ (sym c.in_ok-test_closed.ensures))

pub take_out-requires : goal.take_out-requires
take_out-requires c =
    let m = c.args.pool.now in
    let s = closed-sound m (sym c.in_ok-test_closed.ensures) in
    let e = c.in-Some.ensures ∙ ap (found c.args.label) c.texts_of.ensures in
    subst (λ (k : ℕ). Gapped k m) (sym (found-place _ _ _ e))
    (gapped-here c.args.label m (sound-of m s) (words_of m (λ i. omega (arith, c.slice_known-1.given i))) (omega (arith, found-within _ _ (sym (ap is_some e)), length-texts m (framed m s))))

pub returns-in_default : goal.returns-in_default
returns-in_default c =
    let m = c.args.pool.now in
    let s = closed-sound m (sym c.in_ok-test_closed.ensures) in
    let e = c.in_default.ensures ∙ ap (found c.args.label) c.texts_of.ensures in
    rw c.into.ensures (remove-missing c.args.label m (sym c.in_ok-test_closed.ensures) (omega (arith, found-beyond _ _ (sym (ap is_some e)), length-texts m (framed m s))))

pub returns : goal.returns
returns c =
    let m = c.args.pool.now in
    let s = closed-sound m (sym c.in_ok-test_closed.ensures) in
    let e = c.in-Some.ensures ∙ ap (found c.args.label) c.texts_of.ensures in
    remove-done c.args.label m (sym c.in_ok-test_closed.ensures) (words_of m (λ i. omega (arith, c.slice_known-1.given i)))
    (omega (arith, found-within _ _ (sym (ap is_some e)), length-texts m (framed m s))) _
    (c.take_out.ensures ∙ ap (λ (k : ℕ). taken_out k m) (found-place _ _ _ e))
