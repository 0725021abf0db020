-- A value of a format, in units of its smallest one, beside the numbers that stand k places up: it is one of them, or it is less than the least of
-- them that has all the digits that the format keeps. Assumes nothing.
use mathlib.Core.Path.{◌≡◌, refl, sym, ap, ◌∙◌}
use mathlib.Core.Bool.{Bool, true, false}
use Prim.Native.Nat.{ℕ, ◌+◌, ◌-◌, ◌*◌, ◌^◌, ◌≤◌, ◌<◌}
use native.Mathlib.Nat.{le_trans, le_of_eq, lt_of_lt_of_le, mul_assoc}
use native.Mathlib.Omega.{arith}
use borrow.Author.Tests.{ltb-true, ltb-false}
use lib.Dec.{T, ltb}
use lib.Pow.{pow-add, pow_mono, shl_lt}
use lib.Ieee.{Float, nan, inf, fin, Format, prec, low, hid, fits}
use lib.Ieee.Exact.{HasValue}
use lib.Ieee.Fits.{two}
use lib.Ieee.Scale.{finite}
use Rattle.plain.proofs.Values.{in-units, in-format}

pub data Step (f : Format) (k g : ℕ) : Type 0 where
  multiple : (z : ℕ) → g ≡ z * 2 ^ k → Step f k g
  finer : 0 < k → g < hid f * 2 ^ k → Step f k g

step : (f : Format) (k m j : ℕ) → m < 2 ^ prec f → Step f k (m * 2 ^ j)
step f k m j M = by (ltb j k) refl
  where
    join : k ≤ j → j ≡ j - k + k
    join h = omega arith

    reach : j < k → prec f + j ≤ prec f - 1 + k
    reach h = let t = two f in omega arith

    by : (t : Bool) → ltb j k ≡ t → Step f k (m * 2 ^ j)
    by false e =
        multiple (m * 2 ^ (j - k))
        (ap (λ (x : ℕ). m * 2 ^ x) (join (ltb-false j k e)) ∙ ap (λ (x : ℕ). m * x) (pow-add 2 (j - k) k) ∙ sym (mul_assoc m (2 ^ (j - k)) (2 ^ k)))
    by true e =
        let h = ltb-true j k e in
        finer (omega arith) (lt_of_lt_of_le (shl_lt (prec f) j M) (le_trans (pow_mono (reach h)) (le_of_eq (pow-add 2 (prec f - 1) k))))

pub record InSteps (f : Format) (k : ℕ) (y : Float) : Type 0 where
  pub sign : Bool
  pub size : ℕ
  pub value : HasValue y sign size (2 ^ low f)
  pub stands : Step f k size

pub in-steps : (f : Format) (k : ℕ) (y : Float) → T (fits f y) → T (finite y) → InSteps f k y
in-steps f k nan h t = absurd t
in-steps f k (inf s) h t = absurd t
in-steps f k (fin s m e) h t =
    let i = in-format f s m e h in
    let u = in-units (low f) m e i.fine in
    record { sign = s; size = m * 2 ^ u.0; value = (refl, u.1); stands = step f k m u.0 i.short }
