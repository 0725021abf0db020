-- Every value that is read is finite and below 2^200 in size, so its bits are those of a number and can be held: w·10^k is at most 10^41.
-- Assumes nothing.
use Prim.Native.Nat.{ℕ, suc, ◌+◌, ◌*◌, ◌%◌, ◌^◌, ◌≤◌, ◌<◌}
use mathlib.Core.Path.{◌≡◌, refl, subst}
use mathlib.Core.Bool.{Bool, true, false, not}
use mathlib.Core.List.{List, []}
use native.Mathlib.Nat.{lt_of_le_of_lt, lt_of_lt_of_le, le_of_lt, le_trans, one-le-pow, mul-le-mul_left, mul-le-mul_right, pow-le-pow_right}
use native.Mathlib.Omega.{arith}
use lib.Dec.{T, ltb, leb, lit<, lit≤}
use lib.IntN.{ℤ, pos, negsuc, nat_abs}
use lib.Ieee.{Float, binary64, to_bits, is_nan}
use borrow.Author.Tests.{leb-true, ltb-true}
use Rattle.std.specs.Prelude.{if◌then◌else◌}
use Rattle.plain.specs.Sizes.{Below}
use Rattle.plain.proofs.Tests.{both}
use Rattle.plain.proofs.Rounding.{round-below}
use Rattle.plain.proofs.Sizes.{neg-below}
use Rattle.plain.proofs.Bits.{below_no_nan, bits_below}
use Rattle.refusal.specs.declared.Refusal.TheVariants as R
use Rattle.rounding.specs.Exact.{STEEPEST}
use Rattle.decimal.specs.Form.{Written, number, broken, written}
use Rattle.decimal.specs.Class.{FAR, in_class, top, bottom, scaled_by, signed, valued, reading}
use Rattle.decimal.specs.declared.Reading.TheVariants.{Number, BadForm, OutsideClass}

pub bottom-pos : (k : ℤ) → 0 < bottom k
bottom-pos (pos k) = lit< tt
bottom-pos (negsuc k) = one-le-pow (suc k) 10 (lit< tt)

top_below : (w : ℕ) (k : ℤ) → w < FAR → nat_abs k ≤ STEEPEST → top w k < 2 ^ 199 * bottom k
top_below w (pos k) h g =
    let ten : 10 ^ k ≤ 10 ^ STEEPEST = pow-le-pow_right (lit< tt) g in
    lt_of_le_of_lt (le_trans (mul-le-mul_right (10 ^ k) (le_of_lt h)) (mul-le-mul_left FAR ten)) (lit< tt)
top_below w (negsuc k) h g = lt_of_lt_of_le h (le_trans (lit≤ tt) (mul-le-mul_left (2 ^ 199) (bottom-pos (negsuc k))))

pub scaled-below : (w : ℕ) (k : ℤ) → in_class w k ≡ true → Below 200 (scaled_by w k)
scaled-below w k c =
    let b = both (ltb w FAR) (leb (nat_abs k) STEEPEST) c in
    round-below binary64 false (top w k) (bottom k) 199 (bottom-pos k) (top_below w k (ltb-true w FAR b.0) (leb-true (nat_abs k) STEEPEST b.1)) (lit≤ tt)

signed_below : (m : Bool) (x : Float) → Below 200 x → Below 200 (signed m x)
signed_below true x b = neg-below 200 x b
signed_below false x b = b

valued-below : (v : Written) (x : Float) → valued v ≡ Number x → Below 200 x
valued-below broken x e = absurd (let z : ◌≡◌ {A = ℕ} 0 1 = cc in omega arith)
valued-below (number m w k) x e = by (in_class w k) refl e
  where
    by : (t : Bool) → in_class w k ≡ t → (if t then Number (signed m (scaled_by w k)) else OutsideClass R.Number) ≡ Number x → Below 200 x
    by true c e = let y : signed m (scaled_by w k) ≡ x = cc in subst (Below 200) y (signed_below m (scaled_by w k) (scaled-below w k c))
    by false c e = absurd (let z : ◌≡◌ {A = ℕ} 0 1 = cc in omega arith)

reading-below : (bs : List ℕ) (x : Float) → reading bs ≡ Number x → Below 200 x
unfolding reading
reading-below bs x e = valued-below (written bs) x e

pub reading-no-nan : (bs : List ℕ) (x : Float) → reading bs ≡ Number x → T (not (is_nan x))
reading-no-nan bs x e = below_no_nan 200 x (reading-below bs x e)

-- the bits without the sign
pub reading-bits : (bs : List ℕ) (x : Float) → reading bs ≡ Number x → to_bits binary64 x % 2 ^ 63 < 2 ^ 52 * (1023 + 200)
reading-bits bs x e = bits_below binary64 200 x (lit≤ tt) (reading-below bs x e)

pub reading-empty : reading [] ≡ BadForm R.BadValue
unfolding reading written
reading-empty = refl
