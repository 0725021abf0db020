-- `past` meets its contract: the run from i on ends where the run from `at` on does, and the mask tells the class. Assumes nothing.
use native.Mathlib.Omega.{arith}
use mathlib.Core.Path.{◌≡◌, refl, sym, ◌∙◌}
use Rattle.plain.proofs.Places.{past-step, past_stop, past_end, past_same}
use Rattle.value.proofs.classes.past.Goals as goal

pub loop-i-init : goal.loop-i-init
loop-i-init c = record { same = refl; beyond = λ h. refl }

pub loop-i-preserved : goal.loop-i-preserved
loop-i-preserved c = record {
  same = past-step _ _ _ c.loop-i-test.true (sym c.holds.ensures ∙ c.if-not-holds.false) ∙ c.loop-i.invariant.same;
  beyond = λ h. omega arith;
}

pub returns-then-not-holds : goal.returns-then-not-holds
returns-then-not-holds c =
    sym (past_stop _ _ _ c.loop-i-test.true (sym c.holds.ensures ∙ c.if-not-holds.true)) ∙ c.loop-i.invariant.same ∙ past_same _ _ _ _ (λ j h. c.mask_of-mask.ensures.every _ (omega (arith, c.shared_slice_known-1.given j)))

pub returns : goal.returns
returns c =
    let e : c.max.result ≡ c.loop-i.i = grind (arith, c.max.ensures) in
    e ∙ sym (past_end _ _ _ c.loop-i-test.false) ∙ c.loop-i.invariant.same ∙ past_same _ _ _ _ (λ j h. c.mask_of-mask.ensures.every _ (omega (arith, c.shared_slice_known-1.given j)))
