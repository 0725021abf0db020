-- The product rises with n: a position's angle is its fraction, rounded once, and rounding keeps the order. All of them are finite.
-- Assumes nothing.
use Prim.Native.Nat.{ℕ, suc, ◌*◌, ◌^◌, ◌≤◌, ◌<◌}
use mathlib.Core.Path.{◌≡◌, refl, sym, subst, ◌∙◌}
use mathlib.Core.Bool.{Bool, true, false, ◌&&◌, ◌||◌, true≢false}
use mathlib.Core.Logic.{inl, inr}
use native.Mathlib.Nat.{le_trans, le_of_eq, le_of_lt, mul-le-mul_right}
use native.Mathlib.Omega.{arith}
use borrow.Author.Tests.{ltb-true, eqb-true}
use lib.Dec.{T, eqb, ltb, lit<, lit≤}
use lib.Ieee.{Float, nan, inf, fin, binary64, low, up, down, round, of_int, lt, le, eq}
use lib.Ieee.Back.{round_whole}
use lib.Ieee.Exact.{HasValue}
use lib.Ieee.Fits.{down_pos, and_i, eq→eqb}
use lib.Ieee.Order.{round_mono, le_of_values, transfer}
use lib.Ieee.Positive.{through}
use lib.Ieee.Scale.{finite, grid, round_val, round_under, round_same}
use Rattle.plain.specs.Doubles.{printed, nought}
use Rattle.plain.specs.Sizes.{Below}
use Rattle.plain.proofs.Tests.{both, or_cases, is_false}
use Rattle.plain.proofs.Rounding.{round-below}
use Rattle.plain.proofs.Products.{mul-of-values, div-of-values}
use Rattle.angle.specs.Range.{InTurn}
use Rattle.drive.specs.Ring.{MOST, double, spacing, angle_at, reached}

is : (b : Bool) → T b → b ≡ true
is true t = refl
is false t = absurd t

-- a double that is not negative: the fraction that it is, and a bound on it
pub record Worth (k : ℕ) (x : Float) : Type 0 where
  pub over : ℕ
  pub under : ℕ
  pub some : 0 < under
  pub value : HasValue x false over under
  pub small : over < 2 ^ k * under

worth : (k : ℕ) (x : Float) (a c : ℕ) → Below k x → HasValue x false a c → Worth k x
worth k nan a c b v = absurd b
worth k (inf s) a c b v = absurd b
worth k (fin s m e) a c b v = record { over = m * up e; under = down e; some = down_pos e; value = (v.0, refl); small = b }

below-finite : (k : ℕ) (x : Float) → Below k x → T (finite x)
below-finite k nan b = absurd b
below-finite k (inf s) b = absurd b
below-finite k (fin s m e) b = tt

-- a fraction that is small enough rounds to such a double
round-worth : (k num den : ℕ) → 0 < den → num < 2 ^ k * den → k ≤ 1023 → Worth (suc k) (round binary64 false num den)
round-worth k num den D h K =
    let x = round binary64 false num den in
    let b = round-below binary64 false num den k D h K in
    worth (suc k) x (grid binary64 num den) (2 ^ low binary64) b (round_val binary64 num den (round_under binary64 num den (below-finite (suc k) x b)))

-- ---- the order of such doubles
at_most : (a b : ℕ) (t : Bool) → (ltb a b || (eqb a b && t)) ≡ true → a ≤ b
at_most a b t h = elim (or_cases (ltb a b) (eqb a b && t) h) [
  | inl g ↦ le_of_lt (ltb-true a b g)
  | inr g ↦ le_of_eq (eqb-true a b (both (eqb a b) t g).0)
]

crossed : (x y : Float) (a c b d : ℕ) → HasValue x false a c → HasValue y false b d → le x y ≡ true → a * d ≤ b * c
unfolding le lt eq
crossed nan y a c b d v w h = absurd v
crossed (inf s) y a c b d v w h = absurd v
crossed (fin true m e) y a c b d v w h = absurd (true≢false v.0)
crossed (fin false m e) nan a c b d v w h = absurd w
crossed (fin false m e) (inf s) a c b d v w h = absurd w
crossed (fin false m e) (fin true n g) a c b d v w h = absurd (true≢false w.0)
crossed (fin false m e) (fin false n g) a c b d v w h =
    transfer a b c d (m * up e) (n * up g) (down e) (down g) (down_pos e) (down_pos g) (sym v.1) (sym w.1)
    (at_most (m * up e * down g) (n * up g * down e) true h)

pub le-through : {i j k : ℕ} {x y z : Float} → Worth i x → Worth j y → Worth k z → le x y ≡ true → le y z ≡ true → le x z ≡ true
le-through {i} {j} {k} {x} {y} {z} a b c h g =
    is (le x z)
    (le_of_values x z a.over a.under c.over c.under a.some c.some a.value c.value
    (through a.over b.over c.over a.under b.under c.under b.some
    (crossed x y a.over a.under b.over b.under a.value b.value h)
    (crossed y z b.over b.under c.over c.under b.value c.value g)))

-- ---- an angle of the turn is such a double
turn-worth : (w : Float) → InTurn w → Worth 9 w
unfolding printed round lt eq le
turn-worth nan t = absurd (true≢false (sym t.low))
turn-worth (inf true) t = absurd (true≢false (sym t.low))
turn-worth (inf false) t = absurd (true≢false (sym t.high))
turn-worth (fin true m e) t =
    let a = 0 * down e in
    let b = m * up e * 1 in
    let g : a ≡ b = eqb-true a b (both (eqb a b) (eqb a 0) t.low).0 in
    let z : b ≡ 0 = omega arith in
    let s : fin true m e ≡ nought = t.zero (is (eqb b a && eqb b 0) (and_i (eqb b a) (eqb b 0) (eq→eqb {a = b} {b = a} (sym g)) (eq→eqb {a = b} {b = 0} z))) in
    let n : true ≡ false = cc in
    absurd (true≢false n)
turn-worth (fin false m e) t =
    let b : m * up e * 1 < 360 * down e = ltb-true (m * up e * 1) (360 * down e) t.high in
    let d = down_pos e in
    record { over = m * up e; under = down e; some = d; value = (refl, refl); small = omega arith }

-- ---- the angles of a ring
whole : (n : ℕ) → n ≤ MOST → HasValue (double n) false n 1
unfolding of_int
whole n h = round_whole binary64 false n (le_trans h (lit≤ tt))

module _ (ring : ℕ) (R : 0 < ring) (M : ring ≤ MOST) where
  spacing-is : spacing ring ≡ round binary64 false (360 * 1) (ring * 1)
  unfolding spacing
  spacing-is = div-of-values binary64 (double 360) (double ring) false false 360 1 ring 1 (lit< tt) (lit< tt) R (whole 360 (lit≤ tt)) (whole ring M)

  spacing-worth : Worth 10 (spacing ring)
  spacing-worth = subst (Worth 10) (sym spacing-is) (round-worth 9 (360 * 1) (ring * 1) (omega arith) (omega arith) (lit≤ tt))

  angle-is : (n : ℕ) → n < ring → let s = spacing-worth in angle_at ring n ≡ round binary64 false (n * s.over) (1 * s.under)
  unfolding angle_at
  angle-is n h =
      let s = spacing-worth in
      mul-of-values binary64 (double n) (spacing ring) false false n 1 s.over s.under (lit< tt) s.some (whole n (omega arith)) s.value

  angle-worth : (n : ℕ) → n < ring → Worth 23 (angle_at ring n)
  angle-worth n h =
      let s = spacing-worth in
      let p = s.some in
      let q = s.small in
      let g : n ≤ MOST = omega arith in
      subst (Worth 23) (sym (angle-is n h)) (round-worth 22 (n * s.over) (1 * s.under) (omega arith) (omega (arith, mul-le-mul_right s.over g)) (lit≤ tt))

  pub angle-rises : (n k : ℕ) → n ≤ k → k < ring → le (angle_at ring n) (angle_at ring k) ≡ true
  angle-rises n k h g =
      let s = spacing-worth in
      let u = 1 * s.under in
      let p : 0 < u = let o = s.some in omega arith in
      rw (angle-is n (omega arith), angle-is k g)
      (is _ (round_mono binary64 (n * s.over) u (k * s.over) u p p (mul-le-mul_right u (mul-le-mul_right s.over h))))

  angle-nought : angle_at ring 0 ≡ nought
  unfolding printed
  angle-nought =
      let s = spacing-worth in
      let p = s.some in
      angle-is 0 R ∙ round_same binary64 false (0 * s.over) (1 * s.under) 0 1 (omega arith) (lit< tt) (omega arith)

  -- position 0 is not above any angle of the turn
  pub nought-reached : (w : Float) → InTurn w → reached ring w 0 ≡ true
  nought-reached w t = rw angle-nought t.low

  -- past a position that is above the angle, all are
  pub past-above : (w : Float) → InTurn w → (n k : ℕ) → n ≤ k → k < ring → reached ring w n ≡ false → reached ring w k ≡ false
  past-above w t n k h g a =
      is_false (reached ring w k)
      (λ r. true≢false (sym (le-through (angle-worth n (omega arith)) (angle-worth k g) (turn-worth w t) (angle-rises n k h g) r) ∙ a))
