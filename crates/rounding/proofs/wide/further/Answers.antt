-- `further` meets its contract: what the larger divisor leaves and what it takes too much are together below twice the divisor. Assumes nothing.
use Prim.Native.Nat.{ℕ, ◌+◌, ◌-◌, ◌*◌, ◌/◌, ◌%◌, ◌^◌, ◌≤◌, ◌<◌}
use mathlib.Core.Path.{◌≡◌, ap}
use native.Mathlib.Nat.{div-lt_iff_lt-mul, div-add-mod', mod-lt, mul-le-mul, le_of_lt}
use native.Mathlib.Omega.{arith}
use Rattle.rounding.proofs.wide.further.Goals as goal

abbrev STEP : ℕ
STEP = 67108864

abbrev larger : (d : ℕ) → ℕ
larger d = d / STEP + 1

abbrev digits : (d r : ℕ) → ℕ
digits d r = r / larger d

-- what the digits take too much
abbrev excess : (d r : ℕ) → ℕ
excess d r = digits d r * (larger d * STEP - d)

abbrev left : (d r : ℕ) → ℕ
left d r = r % larger d * STEP + excess d r

module _ (d r : ℕ) (D : 2 ^ 55 ≤ d) (E : d < 2 ^ 56) (R : r < d) where
  few : digits d r < STEP
  few = (div-lt_iff_lt-mul {k = larger d} {x = r} {y = STEP} (omega arith)).1 (omega arith)

  small : excess d r ≤ STEP * STEP
  small = mul-le-mul {n₁ = digits d r} {m₁ = larger d * STEP - d} {n₂ = STEP} {m₂ = STEP} (le_of_lt few) (omega arith)

  below : left d r < d + d
  below = let l : 0 < larger d = omega arith in omega (arith, small, mod-lt r l)

  worth : digits d r * d + left d r ≡ r * STEP
  worth = whole (digits d r) (larger d) (r % larger d) (larger d * STEP - d) (omega arith) (div-add-mod' r (larger d))
    where
      whole : (q l t g : ℕ) → g + d ≡ l * STEP → q * l + t ≡ r → q * d + (t * STEP + q * g) ≡ r * STEP
      whole q l t g e f = omega (arith, ap (λ (n : ℕ). q * n) e)

known : (d r : ℕ) → r < d → 2 ^ 55 ≤ d → d < 2 ^ 56 → (digits d r < STEP) × (left d r < d + d) × (digits d r * d + left d r ≡ r * STEP)
known d r R D E = (few d r D E R, below d r D E R, worth d r D E R)

pub overflow_mul-rest : goal.overflow_mul-rest
overflow_mul-rest c = omega (arith, known c.args.d c.args.p.rest c.requires.1 c.requires.2 c.requires.3)

pub overflow_mul-rest-3 : goal.overflow_mul-rest-3
overflow_mul-rest-3 c = omega (arith, known c.args.d c.args.p.rest c.requires.1 c.requires.2 c.requires.3)

pub overflow_add-rest : goal.overflow_add-rest
overflow_add-rest c = omega (arith, known c.args.d c.args.p.rest c.requires.1 c.requires.2 c.requires.3)

pub overflow_add-whole : goal.overflow_add-whole
overflow_add-whole c = omega (arith, known c.args.d c.args.p.rest c.requires.1 c.requires.2 c.requires.3)

pub returns-then-rest-d : goal.returns-then-rest-d
returns-then-rest-d c = omega (arith, known c.args.d c.args.p.rest c.requires.1 c.requires.2 c.requires.3)

pub overflow_add-result : goal.overflow_add-result
overflow_add-result c = omega (arith, known c.args.d c.args.p.rest c.requires.1 c.requires.2 c.requires.3)

pub returns : goal.returns
returns c = omega (arith, known c.args.d c.args.p.rest c.requires.1 c.requires.2 c.requires.3)
