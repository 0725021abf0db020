-- A remainder takes the sign of what is divided, so that of a negative double is got from its size; within a turn a double is its own. Assumes nothing.
use mathlib.Core.Path.{◌≡◌, refl, sym, ap, ◌∙◌}
use mathlib.Core.Bool.{Bool, true, false, not, cond, ◌&&◌, ◌||◌, true≢false}
use Prim.Native.Nat.{ℕ, zero, suc, ◌+◌, ◌-◌, ◌*◌, ◌/◌, ◌%◌, ◌^◌, ◌<◌, compare}
use native.Mathlib.Omega.{arith}
use borrow.Author.Tests.{ltb-false, eqb-true, eqb-false}
use lib.IntN.{ℤ}
use lib.Dec.{T, ltb, eqb}
use lib.Ieee.{Float, nan, inf, fin, Format, prec, emax, low, binary64, up, down, round, units, odd, size, nearest, neg, rem, le, lt, eq, fits}
use lib.Ieee.Bits.{is_true}
use lib.Ieee.Fits.{down_pos, round_is}
use lib.Ieee.Positive.{positive, above, above_of_le}
use Rattle.plain.specs.Doubles.{remainder, printed}
use Rattle.plain.proofs.Tests.{both, eqb_swap}
use Rattle.angle.specs.Wrap.{turn}
use Rattle.angle.proofs.Halving.{as-T}
use Rattle.angle.proofs.Itself.{remainder-itself}
use Rattle.angle.proofs.Range.{BelowTurn}

-- ---- the sign
neg-odd : (s : Bool) (d q k l : ℕ) → neg (odd d s q k l) ≡ odd d (not s) q k l
unfolding neg odd
neg-odd s d zero k l = refl
neg-odd s d (suc q) k l = refl

neg-units : (f : Format) (s : Bool) (q k : ℕ) → neg (units f s q k) ≡ units f (not s) q k
unfolding neg units
neg-units f s q k = by (ltb (q * 2 ^ k) (2 ^ (low f + suc (emax f))))
  where
    by : (b : Bool) → neg (cond b (odd (suc (prec f)) s q k (low f)) (inf s)) ≡ cond b (odd (suc (prec f)) (not s) q k (low f)) (inf (not s))
    by true = neg-odd s (suc (prec f)) q k (low f)
    by false = refl

neg-round : (f : Format) (s : Bool) (a c : ℕ) → neg (round f s a c) ≡ round f (not s) a c
neg-round f s a c =
    let n = a * 2 ^ low f in
    let k = size (n / c) - prec f in
    let u = c * 2 ^ k in
    ap neg (round_is f s a c) ∙ neg-units f s (nearest (n / u) (compare (n % u * 2) u)) k ∙ sym (round_is f (not s) a c)

neg-either : (b s : Bool) (f : Format) (a c : ℕ) → neg (cond b nan (round f (not s) a c)) ≡ cond b nan (round f s a c)
unfolding neg
neg-either true s f a c = refl
neg-either false true f a c = neg-round f false a c
neg-either false false f a c = neg-round f true a c

pub neg-rem : (f : Format) (x y : Float) → neg (rem f (neg x) y) ≡ rem f x y
unfolding neg rem
neg-rem f nan y = refl
neg-rem f (inf s) y = refl
neg-rem f (fin s m e) nan = refl
neg-rem f (fin true m e) (inf t) = refl
neg-rem f (fin false m e) (inf t) = refl
neg-rem f (fin s m e) (fin t n d) = neg-either (eqb n 0) s f (m * up e * down d % (n * up d * down e)) (down e * down d)

-- ---- what the tests say
not-at-most : (a b : ℕ) → (ltb a b || (eqb a b && true)) ≡ false → b < a
not-at-most a b h = by (ltb a b) (eqb a b) refl refl h
  where
    by : (x y : Bool) → ltb a b ≡ x → eqb a b ≡ y → (x || (y && true)) ≡ false → b < a
    by true y p q h = absurd (true≢false h)
    by false true p q h = absurd (true≢false h)
    by false false p q h = let l = ltb-false a b p in let n = eqb-false a b q in omega arith

swapped : (a b : ℕ) → (ltb b a || (eqb a b && true)) ≡ true → (ltb b a || (eqb b a && true)) ≡ true
swapped a b h = ap (λ (z : Bool). ltb b a || (z && true)) (eqb_swap b a) ∙ h

turn-positive : T (positive turn)
unfolding printed round
turn-positive = tt

-- what is from a turn on, and no infinity
pub positive-of : (x : Float) → le turn x ≡ true → eq x (inf false) ≡ false → positive x ≡ true
unfolding eq
positive-of x h n = by x (above_of_le turn x turn-positive (as-T (le turn x) h)) n
  where
    by : (x : Float) → T (above x) → eq x (inf false) ≡ false → positive x ≡ true
    by nan t n = absurd t
    by (inf true) t n = absurd t
    by (inf false) t n = absurd (true≢false n)
    by (fin true m e) t n = absurd t
    by (fin false m e) t n = is_true (ltb 0 m) t

pub infinite : (x y : Float) → eq x (inf false) ≡ true → nan ≡ remainder x y
unfolding eq rem
infinite nan y h = refl
infinite (inf s) y h = refl
infinite (fin s m e) y h = absurd (true≢false (sym h))

pub beyond-neg : (x : Float) → le x (neg turn) ≡ true → le turn (neg x) ≡ true
unfolding printed round neg lt eq le
beyond-neg nan h = h
beyond-neg (inf true) h = refl
beyond-neg (inf false) h = h
beyond-neg (fin true m e) h = swapped (m * up e * 1) (360 * down e) h
beyond-neg (fin false m e) h =
    let a = m * up e * 1 in
    let b = 360 * down e in
    let t = both (eqb a b) (eqb a 0) h in
    let g : a ≡ b = eqb-true a b t.0 in
    let z : a ≡ 0 = eqb-true a 0 t.1 in
    absurd (let d = down_pos e in omega arith)

below-turn : (s : Bool) (m : ℕ) (e : ℤ) → le turn (fin s m e) ≡ false → le (fin s m e) (neg turn) ≡ false → BelowTurn (fin s m e)
unfolding printed round neg lt eq le
below-turn true m e h k =
    let a = m * up e * 1 in
    let b = 360 * down e in
    let l = not-at-most b a (ap (λ (z : Bool). ltb b a || (z && true)) (eqb_swap b a) ∙ k) in
    omega arith
below-turn false m e h k = let l = not-at-most (360 * down e) (m * up e * 1) h in omega arith

-- the infinities are not within
no-infinity : (s : Bool) → le turn (inf s) ≡ false → le (inf s) (neg turn) ≡ false → ⊥
unfolding printed round neg lt eq le
no-infinity true h k = true≢false k
no-infinity false h k = true≢false h

no-number : (y : Float) → nan ≡ remainder nan y
unfolding rem
no-number y = refl

pub itself : (x : Float) → fits binary64 x ≡ true → le turn x ≡ false → le x (neg turn) ≡ false → x ≡ remainder x turn
itself nan f h k = no-number turn
itself (inf s) f h k = absurd (no-infinity s h k)
itself (fin s m e) f h k = sym (remainder-itself (fin s m e) (as-T (fits binary64 (fin s m e)) f) (below-turn s m e h k))
