-- The distances of two doubles from a fraction are in the order of the same distances counted in units of which each double is a whole number.
-- Assumes nothing.
use mathlib.Core.Path.{◌≡◌, refl, sym, ap, ap₂, ◌∙◌}
use mathlib.Core.Bool.{Bool, true, false}
use Prim.Native.Nat.{ℕ, ◌+◌, ◌*◌, ◌≤◌, ◌<◌}
use native.Mathlib.Nat.{add-mul, mul_right_comm, mul-le-mul_right, le_of_mul-le-mul_right}
use lib.IntN.{ℤ}
use lib.Ieee.{Float, nan, inf, fin, up, down}
use lib.Ieee.Exact.{HasValue}
use lib.Ieee.Order.{transfer}
use lib.Ieee.Positive.{den, den_pos}
use Rattle.plain.specs.Nearest.{gap, apart}
use Rattle.plain.proofs.Closest.{gap-mul}

-- how far apart n and a number with a sign are
abbrev pub apart_by : Bool → ℕ → ℕ → ℕ
apart_by false n g = gap n g
apart_by true n g = n + g

apart-by-mul : (s : Bool) (n g l : ℕ) → apart_by s n g * l ≡ apart_by s (n * l) (g * l)
apart-by-mul false n g l = gap-mul n g l
apart-by-mul true n g l = add-mul n g l

apart-is : (a c : ℕ) (s : Bool) (m : ℕ) (e : ℤ) → apart a c (fin s m e) ≡ apart_by s (a * down e) (m * up e * c)
apart-is a c false m e = refl
apart-is a c true m e = refl

-- the distance of a double that is g / l in size
apart-value : (a c : ℕ) (x : Float) (s : Bool) (g l : ℕ) → HasValue x s g l → apart a c x * l ≡ apart_by s (a * l) (g * c) * den x
apart-value a c nan s g l v = absurd v
apart-value a c (inf t) s g l v = absurd v
apart-value a c (fin t m e) s g l v =
    let p : m * up e * c * l ≡ g * c * down e = mul_right_comm (m * up e) c l ∙ ap (λ (n : ℕ). n * c) v.1 ∙ mul_right_comm g (down e) c in
    ap (λ (n : ℕ). n * l) (apart-is a c t m e)
    ∙ apart-by-mul t (a * down e) (m * up e * c) l
    ∙ ap₂ (apart_by t) (mul_right_comm a (down e) l) p
    ∙ sym (apart-by-mul t (a * l) (g * c) (down e))
    ∙ ap (λ (b : Bool). apart_by b (a * l) (g * c) * down e) v.0

module _ (a c l : ℕ) (x y : Float) (s t : Bool) (g h : ℕ) (L : 0 < l) (v : HasValue x s g l) (w : HasValue y t h l) where
  pub crosswise : apart_by s (a * l) (g * c) ≤ apart_by t (a * l) (h * c) → apart a c x * den y ≤ apart a c y * den x
  crosswise d =
      transfer (apart a c x) (apart a c y) (den x) (den y) (apart_by s (a * l) (g * c)) (apart_by t (a * l) (h * c)) l l L L
      (apart-value a c x s g l v) (apart-value a c y t h l w) (mul-le-mul_right l d)

  pub in_order : apart a c x * den y ≤ apart a c y * den x → apart_by s (a * l) (g * c) ≤ apart_by t (a * l) (h * c)
  in_order d =
      le_of_mul-le-mul_right
      (transfer (apart_by s (a * l) (g * c)) (apart_by t (a * l) (h * c)) l l (apart a c x) (apart a c y) (den x) (den y) (den_pos x) (den_pos y)
      (sym (apart-value a c x s g l v)) (sym (apart-value a c y t h l w)) d) L
