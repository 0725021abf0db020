-- A fraction's leading digits and the digit for what is left round as the fraction does, where the whole part has a digit more than the format
-- keeps: the middle between two numbers that are kept is then whole, and the two stand to it alike. Assumes nothing.
use mathlib.Core.Path.{◌≡◌, refl, sym, ap, ap₂, subst, ◌∙◌}
use mathlib.Core.Logic.{◌⊎◌, inl, inr}
use mathlib.Core.Bool.{Bool}
use Prim.Native.Nat.{ℕ, zero, suc, ◌+◌, ◌-◌, ◌*◌, ◌/◌, ◌%◌, ◌^◌, ◌≤◌, ◌<◌, compare, Ordering}
use native.Mathlib.Nat.{le_of_lt, zero-lt-suc, mul_comm, one-mul, mul-le-mul_right, mod-lt, div-one, div-div-eq-div-mul, mul-pos, pow-suc}
use native.Mathlib.Omega.{arith}
use lib.Arith.{digits_div, digits_mod, mod-mul}
use lib.Pow.{pow_pos}
use lib.Ieee.{Format, prec, low, size, nearest, units, round}
use lib.Ieee.Digits.{size-lt, size_reaches}
use lib.Ieee.Nearest.{closest}
use lib.Ieee.Order.{drop, kept}
use Rattle.plain.proofs.Scaling.{size_above, size_is, round-scaled}
use Rattle.rounding.specs.Leading.{some, sticky}
use Rattle.rounding.proofs.Compared.{is_lt, is_eq, is_gt, three}

some-lt : (n : ℕ) → some n < 2
some-lt zero = omega arith
some-lt (suc n) = omega arith

-- t + r / y stands to h as its digits do
same-side : (h t y r : ℕ) → r < y → compare ((t * y + r) * 2) (y * (h * 2)) ≡ compare ((t * 2 + some r) * 2) (h * 2 * 2)
same-side h t y r R = by (three t h) r refl
  where
    by : (t < h) ⊎ ((t ≡ h) ⊎ (h < t)) → (s : ℕ) → r ≡ s → compare ((t * y + r) * 2) (y * (h * 2)) ≡ compare ((t * 2 + some r) * 2) (h * 2 * 2)
    by (inl l) s e = is_lt _ _ (omega (arith, mul-le-mul_right y l)) ∙ sym (is_lt _ _ (omega (arith, some-lt r)))
    by (inr (inl l)) zero e = rw (e, l) (is_eq _ _ (omega arith) ∙ sym (is_eq _ _ (omega arith)))
    by (inr (inl l)) (suc s) e = rw (e, l) (is_gt _ _ (omega arith) ∙ sym (is_gt _ _ (omega arith)))
    by (inr (inr l)) s e = is_gt _ _ (omega (arith, mul-le-mul_right y l)) ∙ sym (is_gt _ _ (omega arith))

-- by a quotient and its rest
pub sticky-of : (x d q r : ℕ) → q * d + r ≡ x → r < d → sticky x d ≡ q * 2 + some r
unfolding sticky
sticky-of x d q r e h = rw (← e, digits_div q h, digits_mod q h)

pub sticky-least : (x y : ℕ) → 2 ^ 53 ≤ x / y → 2 ^ 54 ≤ sticky x y
unfolding sticky
sticky-least x y h = omega arith

module _ (x y : ℕ) (Y : 0 < y) where
  half : sticky x y / 2 ≡ x / y
  unfolding sticky
  half = digits_div (x / y) (some-lt (x % y))

  last : sticky x y % 2 ≡ some (x % y)
  unfolding sticky
  last = digits_mod (x / y) (some-lt (x % y))

  -- in units of 2 h, where the digits count twice
  closest-sticky : (h : ℕ) → 0 < h → closest x (y * (h * 2)) ≡ closest (sticky x y) (h * 2 * 2)
  closest-sticky h H =
      let u = h * 2 in
      let s = sticky x y in
      let U : 0 < u = mul-pos H (zero-lt-suc 1) in
      let whole : x / (y * u) ≡ s / (u * 2) =
      sym (div-div-eq-div-mul x y u) ∙ ap (λ (n : ℕ). n / u) (sym half) ∙ div-div-eq-div-mul s 2 u ∙ ap (λ (n : ℕ). s / n) (mul_comm 2 u) in
      let rest : x % (y * u) ≡ x / y % u * y + x % y = ap (λ (n : ℕ). x % n) (mul_comm y u) ∙ mod-mul x U Y in
      let digits : s % (u * 2) ≡ x / y % u * 2 + some (x % y) = mod-mul s U (zero-lt-suc 1) ∙ ap₂ (λ (n m : ℕ). n % u * 2 + m) half last in
      ap₂ (λ (n : ℕ) (o : Ordering). nearest n o) whole
      (ap (λ (n : ℕ). compare (n * 2) (y * u)) rest
      ∙ same-side h (x / y % u) y (x % y) (mod-lt x Y)
      ∙ ap (λ (n : ℕ). compare (n * 2) (u * 2)) (sym digits))

  sticky-size : 0 < size (x / y) → size (sticky x y) ≡ suc (size (x / y))
  unfolding sticky
  sticky-size Z =
      let w = x / y in
      let z = size w in
      let e : suc (z - 1) ≡ z = omega arith in
      let least : 2 ^ suc (z - 1) ≤ w * 2 = omega (arith, size_reaches w (z - 1) (omega arith)) in
      let most : w < 2 ^ z = size-lt w in
      size_is (sticky x y) z (omega (arith, ap (λ (n : ℕ). 2 ^ n) e)) (omega (arith, some-lt (x % y)))

  pub round-sticky : (f : Format) (s : Bool) (e : ℕ) → 2 ^ prec f ≤ x / y
      → round f s (x * 2 ^ suc e) (y * 2 ^ low f) ≡ round f s (sticky x y * 2 ^ e) (2 ^ low f)
  round-sticky f s e h =
      let p = prec f in
      let m = sticky x y in
      let k = drop p x y in
      let g : p < size (x / y) = size_above (x / y) p h in
      let z : size (m / 1) ≡ suc (size (x / y)) = ap size (div-one m) ∙ sticky-size (omega arith) in
      let d : drop p m 1 ≡ suc k = omega arith in
      let j : k ≡ suc (k - 1) = omega arith in
      let u : 2 ^ k ≡ 2 ^ (k - 1) * 2 = ap (λ (n : ℕ). 2 ^ n) j ∙ pow-suc 2 (k - 1) in
      let same : kept p x y ≡ kept p m 1 =
      ap (λ (n : ℕ). closest x (y * n)) u
      ∙ closest-sticky (2 ^ (k - 1)) (pow_pos (k - 1))
      ∙ ap (λ (n : ℕ). closest m (n * 2)) (sym u)
      ∙ ap (λ (n : ℕ). closest m n) (sym (pow-suc 2 k) ∙ sym (one-mul (2 ^ suc k)))
      ∙ ap (λ (n : ℕ). closest m (1 * 2 ^ n)) (sym d) in
      let i : k + suc e ≡ drop p m 1 + e = omega arith in
      round-scaled x y (suc e) Y f s (le_of_lt g)
      ∙ ap₂ (λ (n j : ℕ). units f s n j) same i
      ∙ sym (round-scaled m 1 e (zero-lt-suc 0) f s (subst (λ (n : ℕ). p ≤ n) (sym z) (omega arith)))
      ∙ ap (λ (n : ℕ). round f s (m * 2 ^ e) n) (one-mul (2 ^ low f))
