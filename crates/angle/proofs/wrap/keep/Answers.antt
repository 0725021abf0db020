-- `keep` meets its contract: what is above 0 is no zero, and what is not is kept only as a zero, which is +0. Assumes nothing.
use mathlib.Core.Path.{◌≡◌, refl, sym}
use mathlib.Core.Bool.{Bool, true, false, ◌&&◌, true≢false}
use lib.Ieee.{Float, lt, le, eq, of_bits, round}
use Rattle.std.proofs.Common.{T, ◌∙◌, inl, inr, if◌then◌else◌}
use Rattle.std.proofs.lemmas.Float.{le_of_lt, lt-or-eq, eq_flip, eq-not_lt, T_from_true}
use Rattle.plain.specs.Doubles.{printed, nought}
use Rattle.angle.specs.Wrap.{turn, kept}
use Rattle.angle.proofs.wrap.keep.Goals as goal
use Rattle.angle.proofs.wrap.keep.Goals.{else-r-via-then-r+else-r-2, else-r-via-else-r}

true-of : (b : Bool) → T b → b ≡ true
true-of true h = refl
true-of false h = absurd h

above : (r : Float) → lt nought r ≡ true → lt r turn ≡ true → r ≡ kept r
unfolding kept
above r a b = rw (true-of _ (le_of_lt nought r (T_from_true _ a)), b, no_zero (eq r nought) refl)
  where
    no_zero : (z : Bool) → eq r nought ≡ z → eq r nought ≡ false
    no_zero false e = e
    no_zero true e = absurd (eq-not_lt nought r (eq_flip r nought (T_from_true _ e)) (T_from_true _ a))

not-above : (r : Float) → lt nought r ≡ false → nought ≡ kept r
unfolding kept
not-above r a = by (le nought r) (lt r turn) refl
  where
    by : (l b : Bool) → le nought r ≡ l → nought ≡ (if l && b then (if eq r nought then nought else r) else nought)
    by false b e = refl
    by true false e = refl
    by true true e = elim (lt-or-eq nought r (T_from_true _ e)) [
      | inl h ↦ absurd (true≢false (sym (true-of _ h) ∙ a))
      | inr h ↦ rw (true-of _ (eq_flip nought r h)) refl
    ]

not-below : (r : Float) → lt r turn ≡ false → nought ≡ kept r
unfolding kept
not-below r b = by (le nought r)
  where
    by : (l : Bool) → nought ≡ (if l && lt r turn then (if eq r nought then nought else r) else nought)
    by false = refl
    by true = rw b refl

pub returns-then-r-2 : goal.returns-then-r-2
unfolding printed round of_bits
returns-then-r-2 c = above c.args.r c.if-r.true c.if-r-2.true

pub returns : goal.returns
unfolding printed round of_bits
returns c = elim c.else-r.branch [
  | else-r-via-then-r+else-r-2 w ↦ not-below c.args.r w.if-r-2.false
  | else-r-via-else-r w ↦ not-above c.args.r w.if-r.false
]
