-- Wrap gives a double of the turn back: it is its own remainder, and no clause changes it but that of a zero. Assumes nothing.
use mathlib.Core.Path.{◌≡◌, refl, sym, ap, ◌∙◌}
use mathlib.Core.Bool.{Bool, true, false, ◌&&◌}
use Prim.Native.Nat.{ℕ, ◌*◌, ◌%◌}
use native.Mathlib.Nat.{mod-eq_of_lt, mul-one}
use native.Mathlib.Omega.{arith}
use lib.Dec.{T}
use lib.Ieee.{Float, nan, inf, fin, binary64, up, down, lt, le, eq, rem, round, fits}
use lib.Ieee.Fits.{nan-fits, round-fits, add-fits}
use Rattle.std.specs.Prelude.{if◌then◌else◌}
use Rattle.plain.specs.Doubles.{◌⊕◌, remainder, printed, nought}
use Rattle.plain.proofs.Values.{round-back}
use Rattle.angle.specs.Wrap.{turn, plus_zero, kept, lifted, wrapped}
use Rattle.angle.specs.Range.{InTurn}
use Rattle.angle.proofs.Range.{BelowTurn, below-turn, not-below-nought, wrapped-in-turn}

pub remainder-itself : (x : Float) → T (fits binary64 x) → BelowTurn x → remainder x turn ≡ x
unfolding printed round rem
remainder-itself nan f h = absurd h
remainder-itself (inf s) f h = absurd h
remainder-itself (fin s m e) f h =
    ap (λ (n : ℕ). round binary64 s n (down e * 1)) (mod-eq_of_lt {n = m * up e * 1} (omega arith))
    ∙ simp mul-one (round-back binary64 s m e f)

pub wrapped-itself : (x : Float) → T (fits binary64 x) → le nought x ≡ true → lt x turn ≡ true → wrapped x ≡ plus_zero x
unfolding wrapped kept
wrapped-itself x f a b =
    ap (λ (r : Float). kept (lifted r)) (remainder-itself x f (below-turn x a b)) ∙ rw (not-below-nought x a, a, b)

-- ---- so to wrap twice is to wrap once
either-fits : (b : Bool) (x y : Float) → T (fits binary64 x) → T (fits binary64 y) → T (fits binary64 (if b then x else y))
either-fits true x y f g = f
either-fits false x y f g = g

nought-fits : T (fits binary64 nought)
unfolding printed
nought-fits = round-fits binary64 false 0 1

remainder-fits : (x : Float) → T (fits binary64 (remainder x turn))
unfolding printed round rem
remainder-fits nan = nan-fits binary64
remainder-fits (inf s) = nan-fits binary64
remainder-fits (fin s m e) = round-fits binary64 s (m * up e * 1 % (360 * down e)) (down e * 1)

-- what wrap answers is a double
pub wrapped-fits : (x : Float) → T (fits binary64 (wrapped x))
unfolding wrapped kept
wrapped-fits x =
    let r = remainder x turn in
    let y = lifted r in
    either-fits (le nought y && lt y turn) (plus_zero y) nought
    (either-fits (eq y nought) nought y nought-fits (either-fits (lt r nought) (r ⊕ turn) r (add-fits binary64 r turn) (remainder-fits x)))
    nought-fits

plus-zero-itself : (x : Float) → InTurn x → plus_zero x ≡ x
plus-zero-itself x t = by (eq x nought) refl
  where
    by : (z : Bool) → eq x nought ≡ z → (if z then nought else x) ≡ x
    by true e = sym (t.zero e)
    by false e = refl

pub wrapped-twice : (x : Float) → wrapped (wrapped x) ≡ wrapped x
wrapped-twice x =
    let t = wrapped-in-turn x in
    wrapped-itself (wrapped x) (wrapped-fits x) t.low t.high ∙ plus-zero-itself (wrapped x) t
