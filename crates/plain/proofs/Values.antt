-- A double is fixed by its sign and its size, so the fraction that a double is rounds to it. Assumes nothing.
use mathlib.Core.Path.{◌≡◌, refl, sym, ap, ◌∙◌}
use mathlib.Core.Bool.{Bool, ◌&&◌}
use Prim.Native.Nat.{ℕ, zero, suc, ◌+◌, ◌-◌, ◌*◌, ◌/◌, ◌%◌, ◌^◌, ◌≤◌, ◌<◌}
use native.Mathlib.Nat.{le_refl, le_of_eq, le_trans, le_antisymm, le-mul_of_pos_right, mul-pos, lt_of_le_of_lt, lt_of_lt_of_le, lt_of_not-le, not-le_of_lt, le_of_suc-le-suc, mul-one, one-mul, zero-mul, mul_assoc, mul_comm, mul_right_comm, mul-lt-mul_of_pos_right, lt_of_mul-lt-mul_right, sub-add_cancel}
use lib.IntN.{ℤ, pos, negsuc}
use lib.Dec.{T, eqb, ltb, leb, eqb→eq, ltb→lt, leb→le}
use lib.Pow.{pow-add, pow_pos, pow-lt}
use lib.Ieee.{Float, nan, inf, fin, Format, prec, emax, low, up, down, round, fits, to_bits, of_bits}
use lib.Ieee.Exact.{HasValue, round_exact}
use lib.Ieee.Fits.{up_pos, down_pos, round-fits, and_l, and_r}
use lib.Ieee.Bits.{of_bits-to_bits}
use lib.Ieee.Nearest.{div_same}
use lib.Ieee.Order.{transfer}

-- the same sign and size have the same bits
same_bits : (f : Format) (x y : Float) (s : Bool) (a c : ℕ) → 0 < c → HasValue x s a c → HasValue y s a c → to_bits f x ≡ to_bits f y
unfolding to_bits
same_bits f nan y s a c C v w = absurd v
same_bits f (inf t) y s a c C v w = absurd v
same_bits f (fin t m e) nan s a c C v w = absurd w
same_bits f (fin t m e) (inf u) s a c C v w = absurd w
same_bits f (fin t m e) (fin u n d) s a c C v w =
    let p = m * up e in
    let q = n * up d in
    let l = 2 ^ low f in
    let cross : p * down d ≡ q * down e =
    le_antisymm (transfer p q (down e) (down d) a a c c C C v.1 w.1 (le_refl (a * c)))
    (transfer q p (down d) (down e) a a c c C C w.1 v.1 (le_refl (a * c))) in
    let whole : p * l / down e ≡ q * l / down d =
    div_same (p * l) (down e) (q * l) (down d) (down_pos e) (down_pos d)
    (mul_right_comm p l (down d) ∙ ap (λ (x : ℕ). x * l) cross ∙ mul_right_comm q (down e) l) in
    rw (v.0, w.0, whole)

pub value-unique : (f : Format) (x y : Float) (s : Bool) (a c : ℕ) → 0 < c → T (fits f x) → T (fits f y) → HasValue x s a c → HasValue y s a c → x ≡ y
value-unique f x y s a c C p q v w = sym (of_bits-to_bits f x p) ∙ ap (of_bits f) (same_bits f x y s a c C v w) ∙ of_bits-to_bits f y q

-- 2 ^ e in units of the smallest value
place : (l : ℕ) (e : ℤ) → down e ≤ 2 ^ l → (j : ℕ) × (up e * 2 ^ l ≡ 2 ^ j * down e)
place l (pos k) h = (k + l, sym (pow-add 2 k l) ∙ sym (mul-one (2 ^ (k + l))))
place l (negsuc k) h =
    let reach : suc k ≤ l = le_of_suc-le-suc (lt_of_not-le (λ (g : suc l ≤ suc k). not-le_of_lt (pow-lt g) h)) in
    (l - suc k, one-mul (2 ^ l) ∙ ap (λ (x : ℕ). 2 ^ x) (sym (sub-add_cancel reach)) ∙ pow-add 2 (l - suc k) (suc k))

pub in-units : (l m : ℕ) (e : ℤ) → down e ≤ 2 ^ l → (j : ℕ) × (m * up e * 2 ^ l ≡ m * 2 ^ j * down e)
in-units l m e h =
    let p = place l e h in
    (p.0, mul_assoc m (up e) (2 ^ l) ∙ ap (λ (x : ℕ). m * x) p.1 ∙ sym (mul_assoc m (2 ^ p.0) (down e)))

exact : (f : Format) (s : Bool) (m : ℕ) (e : ℤ) → m < 2 ^ prec f → down e ≤ 2 ^ low f → m * up e < 2 ^ suc (emax f) * down e
    → HasValue (round f s (m * up e) (down e)) s (m * up e) (down e)
exact f s m e short fine small =
    let l = 2 ^ low f in
    let u = in-units (low f) m e fine in
    let j = u.0 in
    let whole : m * up e * l ≡ m * 2 ^ j * down e = u.1 in
    let room : 2 ^ suc (emax f) * down e * l ≡ 2 ^ (low f + suc (emax f)) * down e =
    mul_right_comm (2 ^ suc (emax f)) (down e) l
    ∙ ap (λ (x : ℕ). x * down e) (mul_comm (2 ^ suc (emax f)) l ∙ sym (pow-add 2 (low f) (suc (emax f)))) in
    let under : m * 2 ^ j * down e < 2 ^ (low f + suc (emax f)) * down e =
    lt_of_le_of_lt (le_of_eq (sym whole)) (lt_of_lt_of_le (mul-lt-mul_of_pos_right small (pow_pos (low f))) (le_of_eq room)) in
    round_exact f s (m * up e) (down e) m j (down_pos e) short (lt_of_mul-lt-mul_right (down e) under) whole

-- what it is to fit, as bounds
pub record InFormat (f : Format) (m : ℕ) (e : ℤ) : Type 0 where
  pub short : m < 2 ^ prec f
  pub fine : down e ≤ 2 ^ low f
  pub small : m * up e < 2 ^ suc (emax f) * down e

one_down : (u d l : ℕ) → 0 < u → 0 < l → u * d ≡ 1 → d ≤ l
one_down u d l U L h = le_trans (le-mul_of_pos_right d U) (le_trans (le_of_eq (mul_comm d u ∙ h)) L)

pub in-format : (f : Format) (s : Bool) (m : ℕ) (e : ℤ) → T (fits f (fin s m e)) → InFormat f m e
unfolding fits
in-format f s zero e t =
    record {
      short = pow_pos (prec f);
      fine = one_down (up e) (down e) (2 ^ low f) (up_pos e) (pow_pos (low f)) (eqb→eq (up e * down e) 1 t);
      small = rw (zero-mul (up e)) (mul-pos (pow_pos (suc (emax f))) (down_pos e));
    }
in-format f s (suc m) e t =
    let n = suc m in
    let odd = eqb (n % 2) 1 in
    let short = ltb n (2 ^ prec f) in
    let fine = leb (down e) (2 ^ low f) in
    let small = ltb (n * up e) (2 ^ suc (emax f) * down e) in
    let three = and_l (odd && short && fine) small t in
    record {
      short = ltb→lt n (2 ^ prec f) (and_r odd short (and_l (odd && short) fine three));
      fine = leb→le (down e) (2 ^ low f) (and_r (odd && short) fine three);
      small = ltb→lt (n * up e) (2 ^ suc (emax f) * down e) (and_r (odd && short && fine) small t);
    }

-- a double is what its own fraction rounds to
pub round-back : (f : Format) (s : Bool) (m : ℕ) (e : ℤ) → T (fits f (fin s m e)) → round f s (m * up e) (down e) ≡ fin s m e
round-back f s m e t =
    let b = in-format f s m e t in
    value-unique f (round f s (m * up e) (down e)) (fin s m e) s (m * up e) (down e) (down_pos e)
    (round-fits f s (m * up e) (down e)) t (exact f s m e b.short b.fine b.small) (refl, refl)
