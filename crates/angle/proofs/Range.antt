-- Wrap answers an angle in the turn, of every double, the infinities and NaN too: what passes its tests is in range, and all else
-- is +0. Assumes nothing.
use mathlib.Core.Path.{◌≡◌, refl, sym, ◌∙◌}
use mathlib.Core.Bool.{Bool, true, false, ◌&&◌, true≢false}
use Prim.Native.Nat.{ℕ, ◌+◌, ◌*◌, ◌<◌}
use native.Mathlib.Omega.{arith}
use borrow.Author.Tests.{ltb-true, eqb-true, le-ltb}
use lib.IntN.{ℤ}
use lib.Dec.{eqb}
use lib.Ieee.{Float, nan, inf, fin, up, down, lt, le, eq, round}
use lib.Ieee.Fits.{down_pos}
use Rattle.std.specs.Prelude.{if◌then◌else◌}
use Rattle.plain.specs.Doubles.{remainder, printed, nought}
use Rattle.plain.proofs.Tests.{both}
use Rattle.angle.specs.Wrap.{turn, kept, lifted, wrapped}
use Rattle.angle.specs.Range.{InTurn}

nought-in-turn : InTurn nought
unfolding printed round lt eq le
nought-in-turn = record { low = refl; high = refl; zero = λ z. refl }

kept-in-turn : (r : Float) → InTurn (kept r)
unfolding kept
kept-in-turn r = by (le nought r) (lt r turn) (eq r nought) refl refl refl
  where
    by : (a b z : Bool) → le nought r ≡ a → lt r turn ≡ b → eq r nought ≡ z → InTurn (if a && b then (if z then nought else r) else nought)
    by true true true p q n = nought-in-turn
    by true true false p q n = record { low = p; high = q; zero = λ z. absurd (true≢false (sym z ∙ n)) }
    by true false z p q n = nought-in-turn
    by false b z p q n = nought-in-turn

pub wrapped-in-turn : (x : Float) → InTurn (wrapped x)
unfolding wrapped
wrapped-in-turn x = kept-in-turn (lifted (remainder x turn))

-- x is finite, and of size below 360
abbrev pub BelowTurn : Float → Type 0
BelowTurn nan = ⊥
BelowTurn (inf s) = ⊥
BelowTurn (fin s m e) = m * up e < 360 * down e

-- a number that has the sign and is at least 0 is a zero
minus-zero : (m : ℕ) (e : ℤ) → le nought (fin true m e) ≡ true → m * up e ≡ 0
unfolding printed round lt eq le
minus-zero m e h =
    let a = 0 * down e in
    let b = m * up e * 1 in
    let g : a ≡ b = eqb-true a b (both (eqb a b) (eqb a 0) h).0 in
    omega arith

pub below-turn : (x : Float) → le nought x ≡ true → lt x turn ≡ true → BelowTurn x
unfolding printed round lt eq le
below-turn nan a b = absurd (true≢false (sym b))
below-turn (inf true) a b = absurd (true≢false (sym a))
below-turn (inf false) a b = absurd (true≢false (sym b))
below-turn (fin true m e) a b = let z = minus-zero m e a in let d = down_pos e in omega arith
below-turn (fin false m e) a b = let h : m * up e * 1 < 360 * down e = ltb-true (m * up e * 1) (360 * down e) b in omega arith

pub not-below-nought : (x : Float) → le nought x ≡ true → lt x nought ≡ false
unfolding printed round lt eq le
not-below-nought nan a = refl
not-below-nought (inf true) a = absurd (true≢false (sym a))
not-below-nought (inf false) a = refl
not-below-nought (fin true m e) a = let z = minus-zero m e a in le-ltb 0 (m * up e * 1 + 0 * down e) (omega arith)
not-below-nought (fin false m e) a = le-ltb (m * up e * 1) (0 * down e) (omega arith)
