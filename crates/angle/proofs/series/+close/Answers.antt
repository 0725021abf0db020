-- `close`, which calls itself, meets its contract: the first divisor is taken up and the rest remain, their number falling.
-- Assumes nothing.
use mathlib.Core.Path.{◌≡◌, refl, ap, ◌∙◌}
use mathlib.Core.List.{List}
use Prim.Native.Nat.{ℕ, suc, ◌-◌, ◌≤◌, ◌<◌}
use native.Mathlib.Nat.{sub-zero}
use native.Mathlib.Omega.{arith}
use lib.Ieee.{Float, nan, of_bits, round}
use lib.ListN.{length, drop, get_or}
use lib.Seq.{drop-length, drop-cons}
use Rattle.plain.specs.Doubles.{◌⊖◌, ◌⊗◌, ◌⊘◌, printed, one}
use Rattle.angle.specs.Series.{closing, last}
use Rattle.angle.proofs.series.+close.Goals as goal

-- no divisor remains
closed : (z q : Float) (ps : List Float) (n : ℕ) → n ≡ 0 → q ≡ closing z q (last n ps)
unfolding closing
closed z q ps n h = rw (h, sub-zero (length ps), drop-length ps)

-- the first of n is taken up, and the rest remain
taken-up : (z q p : Float) (ps : List Float) (n : ℕ) → 0 < n → n ≤ length ps → p ≡ get_or ps (length ps - n) nan
    → closing z (one ⊖ z ⊘ p ⊗ q) (last (n - 1) ps) ≡ closing z q (last n ps)
unfolding closing
taken-up z q p ps n h g e = rw (drop-cons ps (length ps - n) nan (omega arith), e) (ap (λ k. closing z (one ⊖ z ⊘ get_or ps (length ps - n) nan ⊗ q) (drop k ps)) next)
  where
    next : length ps - (n - 1) ≡ suc (length ps - n)
    next = omega arith

pub returns-then-remaining-eq0 : goal.returns-then-remaining-eq0
returns-then-remaining-eq0 g t c = closed _ _ c.args.divisors.now _ c.if-remaining-eq0.true

pub returns : goal.returns
unfolding printed round of_bits
returns g t c = c.close.ensures ∙ taken-up _ _ _ c.args.divisors.now _ (omega arith) c.requires (rw c.told-divisors refl)
