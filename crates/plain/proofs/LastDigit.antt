-- The bits of n · 2^k units, n with all the digits that the format keeps, are n with k in the exponent's field: they end as n does. Assumes nothing.
use mathlib.Core.Path.{◌≡◌, refl, sym, ap, ◌∙◌}
use mathlib.Core.Logic.{⊎_elim}
use mathlib.Core.Bool.{true, false, true≢false}
use Prim.Native.Nat.{ℕ, suc, ◌+◌, ◌-◌, ◌*◌, ◌/◌, ◌%◌, ◌^◌, ◌≤◌, ◌<◌}
use native.Mathlib.Nat.{le_refl, le_trans, le_of_eq, eq-or-lt_of_le, eq-zero-or-pos, zero-add, mul_assoc, mul-le-mul_right, mul-div_cancel, pow-succ'}
use native.Mathlib.Omega.{arith}
use lib.Pow.{pow-add, pow_pos, shl_lt}
use lib.Ieee.{Float, nan, inf, fin, Format, binary32, binary64, prec, low, up, down, hid, size, to_bits}
use lib.Ieee.Digits.{size-le}
use lib.Ieee.Exact.{HasValue}
use lib.Ieee.Fits.{down_pos, two}
use Rattle.plain.proofs.Bits.{fields}
use Rattle.plain.proofs.Scaling.{size_above}

-- where n stands places up, it has all the digits that the format keeps
abbrev pub Full : Format → ℕ → ℕ → Type 0
Full f n k = 0 < k → hid f ≤ n

module _ (f : Format) (n k : ℕ) (N : n < 2 ^ prec f) (K : Full f n k) where
  dropped : size (n * 2 ^ k) - prec f ≡ k
  dropped = ⊎_elim none some (eq-zero-or-pos k)
    where
      most : size (n * 2 ^ k) ≤ prec f + k
      most = size-le (n * 2 ^ k) (prec f + k) (shl_lt (prec f) k N)

      none : k ≡ 0 → size (n * 2 ^ k) - prec f ≡ k
      none e = let m = most in omega arith

      some : 0 < k → size (n * 2 ^ k) - prec f ≡ k
      some p =
          let m = most in
          let l = size_above (n * 2 ^ k) (prec f - 1 + k) (le_trans (le_of_eq (pow-add 2 (prec f - 1) k)) (mul-le-mul_right (2 ^ k) (K p))) in
          let t = two f in
          omega arith

  fields-short : fields f (n * 2 ^ k) ≡ k * hid f + n
  fields-short = ap (λ (j : ℕ). j * hid f + n * 2 ^ k / 2 ^ j) dropped ∙ ap (λ (m : ℕ). k * hid f + m) (mul-div_cancel n (pow_pos k))

-- the power of two that has one digit more is its half, one place further up
fields-of : (f : Format) (n k : ℕ) → n ≤ 2 ^ prec f → Full f n k → fields f (n * 2 ^ k) ≡ k * hid f + n
fields-of f n k N K = ⊎_elim power (λ h. fields-short f n k h K) (eq-or-lt_of_le N)
  where
    twice : (f : Format) → 2 ^ prec f ≡ hid f * 2
    twice binary32 = refl
    twice binary64 = refl

    less : (f : Format) → hid f < 2 ^ prec f
    less binary32 = omega arith
    less binary64 = omega arith

    carry : (f : Format) (k : ℕ) → suc k * hid f + hid f ≡ k * hid f + 2 ^ prec f
    carry binary32 k = omega arith
    carry binary64 k = omega arith

    power : n ≡ 2 ^ prec f → fields f (n * 2 ^ k) ≡ k * hid f + n
    power e =
        let u : n * 2 ^ k ≡ hid f * 2 ^ suc k =
        ap (λ (x : ℕ). x * 2 ^ k) (e ∙ twice f) ∙ mul_assoc (hid f) 2 (2 ^ k) ∙ ap (λ (x : ℕ). hid f * x) (sym (pow-succ' 2 k)) in
        ap (fields f) u ∙ fields-short f (hid f) (suc k) (less f) (λ h. le_refl (hid f)) ∙ carry f k ∙ ap (λ (x : ℕ). k * hid f + x) (sym e)

pub last-digit : (f : Format) (v : Float) (n k : ℕ) → n ≤ 2 ^ prec f → Full f n k → HasValue v false (n * 2 ^ k) (2 ^ low f) → to_bits f v % 2 ≡ n % 2
unfolding to_bits
last-digit f nan n k N K v = absurd v
last-digit f (inf s) n k N K v = absurd v
last-digit f (fin true m e) n k N K v = absurd (true≢false v.0)
last-digit f (fin false m e) n k N K v =
    let u : m * up e * 2 ^ low f / down e ≡ n * 2 ^ k = ap (λ (x : ℕ). x / down e) v.1 ∙ mul-div_cancel (n * 2 ^ k) (down_pos e) in
    rw zero-add (ap (λ (x : ℕ). fields f x % 2) u ∙ ap (λ (x : ℕ). x % 2) (fields-of f n k N K) ∙ last f)
  where
    last : (f : Format) → (k * hid f + n) % 2 ≡ n % 2
    last binary32 = omega arith
    last binary64 = omega arith
