-- The remainder by a turn that was doubled k times is a double, and it follows from that by twice as much: it is the same, or so much less. Assumes nothing.
use mathlib.Core.Path.{◌≡◌, refl, sym, ap, ap₂, subst, ◌∙◌}
use mathlib.Core.Bool.{Bool, true, false, true≢false}
use Prim.Native.Nat.{ℕ, zero, suc, ◌+◌, ◌-◌, ◌*◌, ◌/◌, ◌%◌, ◌^◌, ◌≤◌, ◌<◌}
use native.Mathlib.Nat.{le_trans, le_of_eq, le_of_lt, lt_of_le_of_lt, lt_of_lt_of_le, mul-one, add-mul, mul_comm, mul_assoc, mul_left_comm, mul_right_comm, mul-pos, mul-lt-mul_of_pos_right, mul-le-mul_right, lt_of_mul-lt-mul_right, le_of_mul-le-mul_right, mod-lt, mod-le, mod-eq_of_lt, mod-eq-sub-mod, mod-mod_of_dvd, mod-add-div', add-mul-mod_self_right, dvd-mul_left, mul-sub, sub-add_cancel}
use native.Mathlib.Omega.{arith}
use borrow.Author.Tests.{ltb-true, ltb-false, le-ltb}
use lib.Dec.{T, ltb, lit<, lit≤, eqb-suc-zero}
use lib.Pow.{pow-add, pow_pos, pow_mono, shl_lt}
use lib.Ieee.{Float, nan, inf, fin, binary64, up, down, round, neg, sum, add, sub, rem, lt, fits}
use lib.Ieee.Exact.{HasValue, round_exact}
use lib.Ieee.Fits.{down_pos}
use lib.Ieee.Positive.{num, den, positive, den_pos, own_value}
use lib.Ieee.Scale.{round_same}
use Rattle.plain.proofs.Values.{in-format, in-units, round-back}

-- ---- whole numbers
mod-scaled : (a b c : ℕ) → 0 < b → 0 < c → a * c % (b * c) ≡ a % b * c
mod-scaled a b c B C =
    let s : a * c ≡ a % b * c + a / b * (b * c) =
    ap (λ (x : ℕ). x * c) (sym (mod-add-div' a b)) ∙ add-mul (a % b) (a / b * b) c ∙ ap (λ (x : ℕ). a % b * c + x) (mul_assoc (a / b) b c) in
    ap (λ (x : ℕ). x % (b * c)) s ∙ add-mul-mod_self_right (a % b * c) (a / b) (b * c) ∙ mod-eq_of_lt (mul-lt-mul_of_pos_right (mod-lt a B) C)

-- a remainder by w, from that by twice w
by-half : (a w : ℕ) → a % (2 * w) % w ≡ a % w
by-half a w = mod-mod_of_dvd w a (dvd-mul_left w 2)

half-low : (a w r : ℕ) → r ≡ a % (2 * w) → r < w → a % w ≡ r
half-low a w r e h = sym (by-half a w) ∙ ap (λ (x : ℕ). x % w) (sym e) ∙ mod-eq_of_lt h

half-high : (a w r : ℕ) → 0 < w → r ≡ a % (2 * w) → w ≤ r → a % w ≡ r - w
half-high a w r W e h =
    let l : r < 2 * w = subst (λ (x : ℕ). x < 2 * w) (sym e) (mod-lt a (omega arith)) in
    let s : r - w < w = omega arith in
    sym (by-half a w) ∙ ap (λ (x : ℕ). x % w) (sym e) ∙ mod-eq-sub-mod h ∙ mod-eq_of_lt s

-- ---- a turn that was doubled k times
abbrev pub wide : ℕ → ℕ
wide k = 360 * 2 ^ k

wide-pos : (k : ℕ) → 0 < wide k
wide-pos k = mul-pos {m = 360} (lit< tt) (pow_pos k)

-- n is a number of at most 53 digits at some place
record Short (n : ℕ) : Type 0 where
  digits : ℕ
  place : ℕ
  few : digits < 2 ^ 53
  is : n ≡ digits * 2 ^ place

short-rest : (m i j : ℕ) → m < 2 ^ 53 → Short (m * 2 ^ j % (360 * 2 ^ i))
short-rest m i j M = by (ltb j i) refl
  where
    by : (b : Bool) → ltb j i ≡ b → Short (m * 2 ^ j % (360 * 2 ^ i))
    by true h =
        let l : j < i = ltb-true j i h in
        let t = i - j in
        let e : 360 * 2 ^ i ≡ 360 * 2 ^ t * 2 ^ j =
        ap (λ (x : ℕ). 360 * 2 ^ x) (sym (sub-add_cancel (le_of_lt l))) ∙ ap (λ (x : ℕ). 360 * x) (pow-add 2 t j) ∙ sym (mul_assoc 360 (2 ^ t) (2 ^ j)) in
        record {
          digits = m % (360 * 2 ^ t);
          place = j;
          few = lt_of_le_of_lt (mod-le m (360 * 2 ^ t)) M;
          is = ap (λ (x : ℕ). m * 2 ^ j % x) e ∙ mod-scaled m (360 * 2 ^ t) (2 ^ j) (wide-pos t) (pow_pos j);
        }
    by false h =
        let l : i ≤ j = ltb-false j i h in
        let t = j - i in
        let e : m * 2 ^ j ≡ m * 2 ^ t * 2 ^ i =
        ap (λ (x : ℕ). m * 2 ^ x) (sym (sub-add_cancel l)) ∙ ap (λ (x : ℕ). m * x) (pow-add 2 t i) ∙ sym (mul_assoc m (2 ^ t) (2 ^ i)) in
        record {
          digits = m * 2 ^ t % 360;
          place = i;
          few = lt_of_lt_of_le (mod-lt (m * 2 ^ t) (lit< tt)) (lit≤ tt);
          is = ap (λ (x : ℕ). x % (360 * 2 ^ i)) e ∙ mod-scaled (m * 2 ^ t) 360 (2 ^ i) (lit< tt) (pow_pos i);
        }

wide-value : (k : ℕ) → k ≤ 1015 → HasValue (round binary64 false (wide k) 1) false (wide k) 1
wide-value k K =
    round_exact binary64 false (wide k) 1 360 (k + 1074) (lit< tt) (lit< tt)
    (lt_of_lt_of_le (shl_lt 9 (k + 1074) (lit< tt)) (pow_mono {i = 9 + (k + 1074)} {j = 2098} (omega arith)))
    (mul_assoc 360 (2 ^ k) (2 ^ 1074) ∙ ap (λ (x : ℕ). 360 * x) (sym (pow-add 2 k 1074)) ∙ sym (mul-one (360 * 2 ^ (k + 1074))))

-- ---- a positive double
pub as-T : (b : Bool) → b ≡ true → T b
as-T b e = subst T (sym e) tt

own-rounded : (x : Float) → T (positive x) → T (fits binary64 x) → round binary64 false (num x) (den x) ≡ x
own-rounded nan p f = absurd p
own-rounded (inf s) p f = absurd p
own-rounded (fin true m e) p f = absurd p
own-rounded (fin false m e) p f = round-back binary64 false m e f

own-small : (x : Float) → T (positive x) → T (fits binary64 x) → num x < 2 ^ 1024 * den x
own-small nan p f = absurd p
own-small (inf s) p f = absurd p
own-small (fin true m e) p f = absurd p
own-small (fin false m e) p f = (in-format binary64 false m e f).small

own-units : (x : Float) → T (positive x) → T (fits binary64 x) → (m : ℕ) × ((j : ℕ) × ((m < 2 ^ 53) × (num x * 2 ^ 1074 ≡ m * 2 ^ j * den x)))
own-units nan p f = absurd p
own-units (inf s) p f = absurd p
own-units (fin true m e) p f = absurd p
own-units (fin false m e) p f =
    let i = in-format binary64 false m e f in
    let u = in-units 1074 m e i.fine in
    (m, (u.0, (i.short, u.1)))

rest-value : (x : Float) (k : ℕ) → T (positive x) → T (fits binary64 x)
    → HasValue (round binary64 false (num x % (wide k * den x)) (den x)) false (num x % (wide k * den x)) (den x)
rest-value x k p f =
    let a = num x in
    let c = den x in
    let l = 2 ^ 1074 in
    let C : 0 < c = den_pos x in
    let w = own-units x p f in
    let m = w.0 in
    let j = w.1.0 in
    let r = a % (wide k * c) in
    let s = short-rest m (k + 1074) j w.1.1.0 in
    let wide-units : wide k * c * l ≡ 360 * 2 ^ (k + 1074) * c =
    mul_right_comm (wide k) c l ∙ ap (λ (x : ℕ). x * c) (mul_assoc 360 (2 ^ k) l ∙ ap (λ (x : ℕ). 360 * x) (sym (pow-add 2 k 1074))) in
    let in-those : r * l ≡ s.digits * 2 ^ s.place * c =
    sym (mod-scaled a (wide k * c) l (mul-pos (wide-pos k) C) (pow_pos 1074))
    ∙ ap₂ (λ (y z : ℕ). y % z) w.1.1.1 wide-units
    ∙ mod-scaled (m * 2 ^ j) (360 * 2 ^ (k + 1074)) c (wide-pos (k + 1074)) C
    ∙ ap (λ (x : ℕ). x * c) s.is in
    let most : a * l < 2 ^ 2098 * c =
    lt_of_lt_of_le (mul-lt-mul_of_pos_right (own-small x p f) (pow_pos 1074))
    (le_of_eq (mul_right_comm (2 ^ 1024) c l ∙ ap (λ (x : ℕ). x * c) (sym (pow-add 2 1024 1074)))) in
    let under : s.digits * 2 ^ s.place * c < 2 ^ 2098 * c =
    lt_of_le_of_lt (le_trans (le_of_eq (sym in-those)) (mul-le-mul_right l (mod-le a (wide k * c)))) most in
    round_exact binary64 false r c s.digits s.place C s.few (lt_of_mul-lt-mul_right c under) in-those

-- ---- operations, by the fractions that their operands are
rem-at : (x y : Float) (a c b : ℕ) → 0 < c → 0 < b → HasValue x false a c → HasValue y false b 1 → rem binary64 x y ≡ round binary64 false (a % (b * c)) c
unfolding rem
rem-at nan y a c b C B v w = absurd v
rem-at (inf t) y a c b C B v w = absurd v
rem-at (fin t m e) nan a c b C B v w = absurd w
rem-at (fin t m e) (inf u) a c b C B v w = absurd w
rem-at (fin t m e) (fin u zero g) a c b C B v w = absurd (let p : 0 < b * down g = mul-pos B (down_pos g) in let q = w.1 in omega arith)
rem-at (fin t m e) (fin u (suc n) g) a c b C B v w =
    let p = m * up e in
    let q = suc n * up g in
    let x = down e in
    let y = down g in
    let X : 0 < x = down_pos e in
    let Y : 0 < y = down_pos g in
    let divisor : q * x ≡ b * x * y = ap (λ (z : ℕ). z * x) (sym (mul-one q) ∙ w.1) ∙ mul_right_comm b y x in
    let first : p * y % (q * x) ≡ p % (b * x) * y = ap (λ (z : ℕ). p * y % z) divisor ∙ mod-scaled p (b * x) y (mul-pos B X) Y in
    let second : p % (b * x) * c ≡ a % (b * c) * x =
    sym (mod-scaled p (b * x) c (mul-pos B X) C) ∙ ap₂ (λ (i j : ℕ). i % j) v.1 (mul_right_comm b x c) ∙ mod-scaled a (b * c) x (mul-pos B C) X in
    rw (eqb-suc-zero n, v.0)
    (round_same binary64 false (p * y % (q * x)) (x * y) (a % (b * c)) c (mul-pos X Y) C
    (ap (λ (z : ℕ). z * c) first ∙ mul_right_comm (p % (b * x)) y c ∙ ap (λ (z : ℕ). z * y) second ∙ mul_assoc (a % (b * c)) x y))

-- both over one denominator
crossed : (p x y a c : ℕ) → p * c ≡ a * x → p * y * c ≡ a * (x * y)
crossed p x y a c h = mul_right_comm p y c ∙ ap (λ (z : ℕ). z * y) h ∙ mul_assoc a x y

crossed-whole : (q x y b c : ℕ) → q * 1 ≡ b * y → q * x * c ≡ b * c * (x * y)
crossed-whole q x y b c h = ap (λ (z : ℕ). z * x * c) (sym (mul-one q) ∙ h) ∙ simp (mul_assoc, mul_comm, mul_left_comm)

lt-yes : (r d : Float) (a c b : ℕ) → 0 < c → HasValue r false a c → HasValue d false b 1 → lt r d ≡ true → a < b * c
unfolding lt
lt-yes nan d a c b C v w h = absurd v
lt-yes (inf t) d a c b C v w h = absurd v
lt-yes (fin t m e) nan a c b C v w h = absurd w
lt-yes (fin t m e) (inf u) a c b C v w h = absurd w
lt-yes (fin true m e) (fin u n g) a c b C v w h = absurd (true≢false v.0)
lt-yes (fin false m e) (fin true n g) a c b C v w h = absurd (true≢false w.0)
lt-yes (fin false m e) (fin false n g) a c b C v w h =
    let l = ltb-true (m * up e * down g) (n * up g * down e) h in
    lt_of_mul-lt-mul_right (down e * down g)
    (subst (λ (z : ℕ). z < b * c * (down e * down g)) (crossed (m * up e) (down e) (down g) a c v.1)
    (subst (λ (z : ℕ). m * up e * down g * c < z) (crossed-whole (n * up g) (down e) (down g) b c w.1) (mul-lt-mul_of_pos_right l C)))

lt-no : (r d : Float) (a c b : ℕ) → 0 < c → HasValue r false a c → HasValue d false b 1 → lt r d ≡ false → b * c ≤ a
unfolding lt
lt-no nan d a c b C v w h = absurd v
lt-no (inf t) d a c b C v w h = absurd v
lt-no (fin t m e) nan a c b C v w h = absurd w
lt-no (fin t m e) (inf u) a c b C v w h = absurd w
lt-no (fin true m e) (fin u n g) a c b C v w h = absurd (true≢false v.0)
lt-no (fin false m e) (fin true n g) a c b C v w h = absurd (true≢false w.0)
lt-no (fin false m e) (fin false n g) a c b C v w h =
    let l = ltb-false (m * up e * down g) (n * up g * down e) h in
    le_of_mul-le-mul_right
    (subst (λ (z : ℕ). b * c * (down e * down g) ≤ z) (crossed (m * up e) (down e) (down g) a c v.1)
    (subst (λ (z : ℕ). z ≤ m * up e * down g * c) (crossed-whole (n * up g) (down e) (down g) b c w.1) (mul-le-mul_right c l)))
    (mul-pos (down_pos e) (down_pos g))

sub-mul : (x y l : ℕ) → (x - y) * l ≡ x * l - y * l
sub-mul x y l = mul_comm (x - y) l ∙ mul-sub l x y ∙ ap₂ (λ (m n : ℕ). m - n) (mul_comm l x) (mul_comm l y)

sub-at : (r d : Float) (a c b : ℕ) → 0 < c → HasValue r false a c → HasValue d false b 1 → b * c ≤ a → sub binary64 r d ≡ round binary64 false (a - b * c) c
unfolding sub add neg sum
sub-at nan d a c b C v w h = absurd v
sub-at (inf t) d a c b C v w h = absurd v
sub-at (fin t m e) nan a c b C v w h = absurd w
sub-at (fin t m e) (inf u) a c b C v w h = absurd w
sub-at (fin true m e) (fin u n g) a c b C v w h = absurd (true≢false v.0)
sub-at (fin false m e) (fin true n g) a c b C v w h = absurd (true≢false w.0)
sub-at (fin false m e) (fin false n g) a c b C v w h =
    let p = m * up e * down g in
    let q = n * up g * down e in
    let z = down e * down g in
    let P : p * c ≡ a * z = crossed (m * up e) (down e) (down g) a c v.1 in
    let Q : q * c ≡ b * c * z = crossed-whole (n * up g) (down e) (down g) b c w.1 in
    let l : q ≤ p = le_of_mul-le-mul_right (subst (λ (y : ℕ). q * c ≤ y) (sym P) (subst (λ (y : ℕ). y ≤ a * z) (sym Q) (mul-le-mul_right z h))) C in
    rw (le-ltb p q l)
    (round_same binary64 false (p - q) z (a - b * c) c (mul-pos (down_pos e) (down_pos g)) C
    (sub-mul p q c ∙ ap₂ (λ (i j : ℕ). i - j) P Q ∙ sym (sub-mul a (b * c) z)))

twice-at : (d : Float) (b : ℕ) → HasValue d false b 1 → add binary64 d d ≡ round binary64 false (2 * b) 1
unfolding add sum
twice-at nan b w = absurd w
twice-at (inf u) b w = absurd w
twice-at (fin true n g) b w = absurd (true≢false w.0)
twice-at (fin false n g) b w =
    let q = n * up g * down g in
    let z = down g * down g in
    let Q : q ≡ b * z = ap (λ (y : ℕ). y * down g) (sym (mul-one (n * up g)) ∙ w.1) ∙ mul_assoc b (down g) (down g) in
    round_same binary64 false (q + q) z (2 * b) 1 (mul-pos (down_pos g) (down_pos g)) (lit< tt)
    (let e : 2 * b * z ≡ 2 * (b * z) = mul_assoc 2 b z in omega arith)

-- ---- the steps
wide-next : (k : ℕ) → wide (k + 1) ≡ 2 * wide k
wide-next k = let e : 2 ^ (k + 1) ≡ 2 ^ k * 2 = pow-add 2 k 1 in omega arith

module _ (x d : Float) (k : ℕ) (X : positive x ≡ true) (F : fits binary64 x ≡ true) (D : d ≡ round binary64 false (wide k) 1) (K : k ≤ 1015) where
  abbrev a : ℕ
  a = num x

  abbrev c : ℕ
  c = den x

  p : T (positive x)
  p = as-T (positive x) X

  f : T (fits binary64 x)
  f = as-T (fits binary64 x) F

  C : 0 < c
  C = den_pos x

  W : 0 < wide k * c
  W = mul-pos (wide-pos k) C

  turn-value : HasValue d false (wide k) 1
  turn-value = subst (λ (z : Float). HasValue z false (wide k) 1) (sym D) (wide-value k K)

  rest : rem binary64 x d ≡ round binary64 false (a % (wide k * c)) c
  rest = rem-at x d a c (wide k) C (wide-pos k) (own_value x p) turn-value

  pub below : lt x d ≡ true → x ≡ rem binary64 x d
  below h =
      let l : a < wide k * c = lt-yes x d a c (wide k) C (own_value x p) turn-value h in
      sym (own-rounded x p f) ∙ ap (λ (z : ℕ). round binary64 false z c) (sym (mod-eq_of_lt l)) ∙ sym rest

  -- twice as much is above every double
  pub last : k ≡ 1015 → lt x d ≡ false → sub binary64 x d ≡ rem binary64 x d
  last e h =
      let l : wide k * c ≤ a = lt-no x d a c (wide k) C (own_value x p) turn-value h in
      let top : 2 ^ 1024 ≤ 2 * wide k = rw e (lit≤ tt) in
      let u : a < 2 * (wide k * c) = lt_of_lt_of_le (own-small x p f) (le_trans (mul-le-mul_right c top) (le_of_eq (mul_assoc 2 (wide k) c))) in
      sub-at x d a c (wide k) C (own_value x p) turn-value l
      ∙ ap (λ (z : ℕ). round binary64 false z c) (sym (half-high a (wide k * c) a W (sym (mod-eq_of_lt u)) l)) ∙ sym rest

  pub twice : add binary64 d d ≡ round binary64 false (wide (k + 1)) 1
  twice = twice-at d (wide k) turn-value ∙ ap (λ (z : ℕ). round binary64 false z 1) (sym (wide-next k))

  module _ (r : Float) (N : k + 1 ≤ 1015) (R : r ≡ rem binary64 x (add binary64 d d)) where
    abbrev b : ℕ
    b = a % (wide (k + 1) * c)

    next-value : HasValue (add binary64 d d) false (wide (k + 1)) 1
    next-value = subst (λ (z : Float). HasValue z false (wide (k + 1)) 1) (sym twice) (wide-value (k + 1) N)

    is-rest : r ≡ round binary64 false b c
    is-rest = R ∙ rem-at x (add binary64 d d) a c (wide (k + 1)) C (wide-pos (k + 1)) (own_value x p) next-value

    value : HasValue r false b c
    value = subst (λ (z : Float). HasValue z false b c) (sym is-rest) (rest-value x (k + 1) p f)

    halved : b ≡ a % (2 * (wide k * c))
    halved = ap (λ (z : ℕ). a % z) (ap (λ (z : ℕ). z * c) (wide-next k) ∙ mul_assoc 2 (wide k) c)

    pub same : lt r d ≡ true → r ≡ rem binary64 x d
    same h =
        is-rest ∙ ap (λ (z : ℕ). round binary64 false z c) (sym (half-low a (wide k * c) b halved (lt-yes r d b c (wide k) C value turn-value h))) ∙ sym rest

    pub less : lt r d ≡ false → sub binary64 r d ≡ rem binary64 x d
    less h =
        let l : wide k * c ≤ b = lt-no r d b c (wide k) C value turn-value h in
        sub-at r d b c (wide k) C value turn-value l
        ∙ ap (λ (z : ℕ). round binary64 false z c) (sym (half-high a (wide k * c) b W halved l)) ∙ sym rest
