-- The leading digits of w · 5^k and of w / 5^k, and whether anything is left, round as w · 10^k and w / 10^k do, once they are put in their place:
-- all else are powers of two. Assumes nothing.
use Prim.Native.Nat.{ℕ, suc, ◌+◌, ◌-◌, ◌*◌, ◌/◌, ◌%◌, ◌^◌, ◌≤◌, ◌<◌}
use mathlib.Core.Path.{◌≡◌, sym, ap, ap₂, ◌∙◌}
use mathlib.Core.Bool.{false}
use native.Mathlib.Nat.{le_trans, le_of_eq, le_of_lt, lt_of_lt_of_le, lt_of_le_of_lt, one-le-pow, mul-one, mul_comm, mul_assoc, mul_left_comm, mul-pos, mul-le-mul, mul-le-mul_left, mul-le-mul_right, mod-eq_of_lt, le-div_iff_mul-le, pow-le-pow_right}
use native.Mathlib.Omega.{arith}
use lib.Dec.{lit<, lit≤}
use lib.Pow.{pow-add, pow_pos, pow_mono}
use lib.Ieee.{binary64, round}
use lib.Ieee.Scale.{round_same}
use Rattle.rounding.specs.Exact.{STEEPEST}
use Rattle.rounding.specs.Leading.{sticky, Moved}
use Rattle.rounding.proofs.Exact.{ten-pow}
use Rattle.rounding.proofs.Sticky.{sticky-least, round-sticky}

-- powers of two gathered
gather-times : (w f a b s k g h : ℕ) → a + b + s ≡ k + (g + h) → w * 2 ^ a * (f * 2 ^ b) * 2 ^ s ≡ w * (f * 2 ^ k) * (2 ^ g * 2 ^ h)
gather-times w f a b s k g h e =
    let l : w * 2 ^ a * (f * 2 ^ b) * 2 ^ s ≡ w * f * 2 ^ (a + b + s) = simp (mul_assoc, mul_left_comm, pow-add) in
    let r : w * (f * 2 ^ k) * (2 ^ g * 2 ^ h) ≡ w * f * 2 ^ (k + (g + h)) = simp (mul_assoc, pow-add) in
    l ∙ ap (λ (n : ℕ). w * f * 2 ^ n) e ∙ sym r

gather-over : (w f a b s k g h : ℕ) → a + g + s + k ≡ b + h → w * 2 ^ a * 2 ^ g * 2 ^ s * (f * 2 ^ k) ≡ w * (f * 2 ^ b * 2 ^ h)
gather-over w f a b s k g h e =
    let l : w * 2 ^ a * 2 ^ g * 2 ^ s * (f * 2 ^ k) ≡ w * f * 2 ^ (a + g + s + k) = simp (mul_assoc, mul_comm, mul_left_comm, pow-add) in
    let r : w * (f * 2 ^ b * 2 ^ h) ≡ w * f * 2 ^ (b + h) = simp (mul_assoc, pow-add) in
    l ∙ ap (λ (n : ℕ). w * f * 2 ^ n) e ∙ sym r

-- x moved up, as the code moves it: nothing is lost
abbrev up : (x r : ℕ) → ℕ
up x r = x * 2 ^ r % 2 ^ 64

up_is : {x free r : ℕ} → Moved x free r → up x r ≡ x * 2 ^ r
up_is {x} {free} {r} m = mod-eq_of_lt (lt_of_lt_of_le m.most (pow_mono {i = 64 - free} {j = 64} (omega arith)))

up_least : {x free r : ℕ} → Moved x free r → 2 ^ (63 - free) ≤ up x r
up_least m = le_trans m.least (le_of_eq (sym (up_is m)))

pub fives-fit : {k n : ℕ} → k ≤ STEEPEST → n ≡ 5 ^ k → (0 < n) × (n < 2 ^ 52)
fives-fit {k} {n} K N =
    (lt_of_lt_of_le (one-le-pow k 5 (lit< tt)) (le_of_eq (sym N)), lt_of_le_of_lt (le_trans (le_of_eq N) (pow-le-pow_right (lit< tt) K)) (lit< tt))

module _ {w k n a b : ℕ} (K : k ≤ STEEPEST) (N : n ≡ 5 ^ k) (A : Moved w 0 a) (B : Moved n 2 b) where
  many-times : 2 ^ 53 ≤ up w a * up n b / 2 ^ 64
  many-times = (le-div_iff_mul-le (pow_pos 64)).1 (le_trans {m = 2 ^ 63 * 2 ^ 61} (lit≤ tt) (mul-le-mul (up_least A) (up_least B)))

  pub least-times : 2 ^ 54 ≤ sticky (up w a * up n b) (2 ^ 64)
  least-times = sticky-least (up w a * up n b) (2 ^ 64) many-times

  pub rounds-times : round binary64 false (sticky (up w a * up n b) (2 ^ 64) * 2 ^ (1137 + k - a - b)) (2 ^ 1074) ≡ round binary64 false (w * 10 ^ k) 1
  rounds-times =
      let e = 1137 + k - a - b in
      let x = up w a * up n b in
      let s : a + b + suc e ≡ k + (64 + 1074) = omega (arith, A.short, B.short) in
      let same : x * 2 ^ suc e ≡ w * 10 ^ k * (2 ^ 64 * 2 ^ 1074) =
      ap₂ (λ (p q : ℕ). p * q * 2 ^ suc e) (up_is A) (up_is B ∙ ap (λ (p : ℕ). p * 2 ^ b) N)
      ∙ gather-times w (5 ^ k) a b (suc e) k 64 1074 s
      ∙ ap (λ (p : ℕ). w * p * (2 ^ 64 * 2 ^ 1074)) (sym (ten-pow k)) in
      sym (round-sticky x (2 ^ 64) (pow_pos 64) binary64 false e many-times)
      ∙ round_same binary64 false (x * 2 ^ suc e) (2 ^ 64 * 2 ^ 1074) (w * 10 ^ k) 1 (mul-pos (pow_pos 64) (pow_pos 1074)) (lit< tt)
      (mul-one (x * 2 ^ suc e) ∙ same)

module _ {w k n a b : ℕ} (K : k ≤ STEEPEST) (N : n ≡ 5 ^ k) (A : Moved w 0 a) (B : Moved n 8 b) where
  divisor : 0 < up n b
  divisor = lt_of_lt_of_le {n = 0} (pow_pos 55) (up_least B)

  many-over : 2 ^ 53 ≤ up w a * 2 ^ 52 / up n b
  many-over =
      (le-div_iff_mul-le divisor).1
      (le_trans (mul-le-mul_left (2 ^ 53) (le_trans (le_of_eq (up_is B)) (le_of_lt B.most)))
      (le_trans {m = 2 ^ 63 * 2 ^ 52} (lit≤ tt) (mul-le-mul_right (2 ^ 52) (up_least A))))

  pub least-over : 2 ^ 54 ≤ sticky (up w a * 2 ^ 52) (up n b)
  least-over = sticky-least (up w a * 2 ^ 52) (up n b) many-over

  pub rounds-over : round binary64 false (sticky (up w a * 2 ^ 52) (up n b) * 2 ^ (1021 + b - a - k)) (2 ^ 1074) ≡ round binary64 false w (10 ^ k)
  rounds-over =
      let e = 1021 + b - a - k in
      let x = up w a * 2 ^ 52 in
      let y = up n b in
      let s : a + 52 + suc e + k ≡ b + 1074 = omega (arith, A.short, B.short) in
      let same : x * 2 ^ suc e * 10 ^ k ≡ w * (y * 2 ^ 1074) =
      ap₂ (λ (p q : ℕ). p * 2 ^ 52 * 2 ^ suc e * q) (up_is A) (ten-pow k)
      ∙ gather-over w (5 ^ k) a b (suc e) k 52 1074 s
      ∙ ap (λ (p : ℕ). w * (p * 2 ^ 1074)) (ap (λ (p : ℕ). p * 2 ^ b) (sym N) ∙ sym (up_is B)) in
      sym (round-sticky x y divisor binary64 false e many-over)
      ∙ round_same binary64 false (x * 2 ^ suc e) (y * 2 ^ 1074) w (10 ^ k) (mul-pos divisor (pow_pos 1074)) (one-le-pow k 10 (lit< tt)) same
