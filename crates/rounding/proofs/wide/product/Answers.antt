-- `product` meets its contract: the products of the halves, added column by column in base 2^32. Assumes nothing.
use Prim.Native.Nat.{ℕ, zero, suc, ◌+◌, ◌*◌, ◌/◌, ◌%◌, ◌^◌, ◌≤◌, ◌<◌}
use mathlib.Core.Path.{◌≡◌, refl, sym, ap, ap₂, ◌∙◌}
use mathlib.Core.Logic.{◌⊎◌, inl, inr}
use native.Mathlib.Nat.{le_of_lt, lt_of_le_of_lt, lt_irrefl, eq-zero-or-pos, mul-le-mul, mul-le-mul_left, mul-lt-mul_of_pos_right, div-add-mod'}
use native.Mathlib.Omega.{arith}
use lib.Pow.{pow_pos}
use Rattle.rounding.specs.Leading.{some}
use Rattle.rounding.proofs.Sticky.{sticky-of}
use Rattle.rounding.proofs.wide.product.Goals as goal

abbrev H : ℕ
H = 4294967296

-- the columns of (a H + b) (c H + d)
abbrev low : (a b c d : ℕ) → ℕ
low a b c d = b * d

abbrev middle : (a b c d : ℕ) → ℕ
middle a b c d = a * d + low a b c d / H

abbrev next : (a b c d : ℕ) → ℕ
next a b c d = b * c + middle a b c d % H

abbrev upper : (a b c d : ℕ) → ℕ
upper a b c d = a * c + middle a b c d / H + next a b c d / H

abbrev lower : (a b c d : ℕ) → ℕ
lower a b c d = next a b c d % H * H + low a b c d % H

columns : (a b c d : ℕ) → upper a b c d * 2 ^ 64 + lower a b c d ≡ (a * H + b) * (c * H + d)
columns a b c d = omega arith

halves : (x y : ℕ) → x < H → y < H → x * y ≤ 4294967295 * 4294967295
halves x y h g = mul-le-mul {n₁ = x} {m₁ = y} {n₂ = 4294967295} {m₂ = 4294967295} (omega arith) (omega arith)

module _ (u v : ℕ) where
  whole : upper (u / H) (u % H) (v / H) (v % H) * 2 ^ 64 + lower (u / H) (u % H) (v / H) (v % H) ≡ u * v
  whole = columns (u / H) (u % H) (v / H) (v % H) ∙ ap₂ (λ (x y : ℕ). x * y) (div-add-mod' u H) (div-add-mod' v H)

  upper-most : u < 2 ^ 64 → v < 2 ^ 62 → upper (u / H) (u % H) (v / H) (v % H) < 2 ^ 62
  upper-most h g =
      let m : u * v < 2 ^ 64 * 2 ^ 62 = lt_of_le_of_lt (mul-le-mul_left u (le_of_lt g)) (mul-lt-mul_of_pos_right h (pow_pos 62)) in
      omega (arith, whole)

some-pos : (n : ℕ) → 0 < n → some n ≡ 1
some-pos zero h = absurd (lt_irrefl 0 h)
some-pos (suc n) h = refl

-- anything in either part is something in the whole
some-both : (a b : ℕ) → some (a * H + b) ≡ some (a + b)
some-both a b = by (eq-zero-or-pos (a + b))
  where
    by : (a + b ≡ 0) ⊎ (0 < a + b) → some (a * H + b) ≡ some (a + b)
    by (inl e) = let f : a * H + b ≡ 0 = omega arith in ap some (f ∙ sym e)
    by (inr h) = some-pos (a * H + b) (omega arith) ∙ sym (some-pos (a + b) h)

pub overflow_mul-low : goal.overflow_mul-low
overflow_mul-low c = omega (arith, halves (c.args.u % H) (c.args.v % H) (omega arith) (omega arith))

pub overflow_mul-middle : goal.overflow_mul-middle
overflow_mul-middle c = omega (arith, halves (c.args.u / H) (c.args.v % H) (omega arith) (omega arith))

pub overflow_add-middle : goal.overflow_add-middle
overflow_add-middle c =
    let low = halves (c.args.u % H) (c.args.v % H) (omega arith) (omega arith) in
    omega (arith, halves (c.args.u / H) (c.args.v % H) (omega arith) (omega arith))

pub overflow_mul-next : goal.overflow_mul-next
overflow_mul-next c = omega (arith, halves (c.args.u % H) (c.args.v / H) (omega arith) (omega arith))

pub overflow_add-next : goal.overflow_add-next
overflow_add-next c = omega (arith, halves (c.args.u % H) (c.args.v / H) (omega arith) (omega arith))

pub overflow_mul-u1 : goal.overflow_mul-u1
overflow_mul-u1 c = omega (arith, halves (c.args.u / H) (c.args.v / H) (omega arith) (omega arith))

pub overflow_add-u1 : goal.overflow_add-u1
overflow_add-u1 c = omega (arith, upper-most c.args.u c.args.v c.ranges.u.fits c.requires)

pub overflow_add-u1-2 : goal.overflow_add-u1-2
overflow_add-u1-2 c = omega (arith, upper-most c.args.u c.args.v c.ranges.u.fits c.requires)

pub mark-requires : goal.mark-requires
mark-requires c = omega (arith, upper-most c.args.u c.args.v c.ranges.u.fits c.requires)

pub returns : goal.returns
returns c =
    let u = c.args.u in
    let v = c.args.v in
    let both = some-both (next (u / H) (u % H) (v / H) (v % H) % H) (u % H * (v % H) % H) in
    c.mark.ensures ∙ rw (← both) (sym (sticky-of (u * v) (2 ^ 64) _ _ (whole u v) (omega arith)))
