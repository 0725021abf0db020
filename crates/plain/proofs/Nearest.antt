-- `round` gives the nearest value, and no other value is the nearest: of the numbers that stand as many places up as the result it is the closest,
-- and a finer value lies below the first digit of the fraction. Assumes nothing.
use mathlib.Core.Path.{◌≡◌, sym, ap, ◌∙◌, subst}
use mathlib.Core.Logic.{◌⊎◌, inl, inr, ⊎_elim}
use mathlib.Core.Bool.{Bool, true, false, true≢false}
use Prim.Native.Nat.{ℕ, ◌+◌, ◌-◌, ◌*◌, ◌/◌, ◌%◌, ◌^◌, ◌≤◌, ◌<◌}
use native.Mathlib.Nat.{le_trans, le_of_eq, lt_of_lt_of_le, le_antisymm, zero-mul, mul_comm, mul_assoc, mul-pos, mul-lt-mul_of_pos_right, le-div_iff_mul-le, div-div-eq-div-mul}
use native.Mathlib.Omega.{arith}
use lib.Dec.{T}
use lib.Pow.{pow-add, pow_pos}
use lib.Ieee.{Float, nan, inf, fin, Format, prec, low, hid, size, round, fits, to_bits}
use lib.Ieee.Digits.{size_reaches}
use lib.Ieee.Exact.{HasValue}
use lib.Ieee.Fits.{round-fits, two, kept-lt}
use lib.Ieee.Order.{drop, kept}
use lib.Ieee.Positive.{den}
use lib.Ieee.Scale.{finite, round_val, round_under}
use Rattle.plain.specs.Nearest.{gap, apart, negative, Nearest}
use Rattle.plain.proofs.Values.{value-unique}
use Rattle.plain.proofs.Closest.{Closest, closest-is, neighbours}
use Rattle.plain.proofs.LastDigit.{last-digit}
use Rattle.plain.proofs.Distances.{apart_by, crosswise, in_order}
use Rattle.plain.proofs.Steps.{Step, multiple, finer, in-steps}

sign_of : (x : Float) (s : Bool) (g l : ℕ) → HasValue x s g l → negative x ≡ s
sign_of nan s g l v = absurd v
sign_of (inf t) s g l v = absurd v
sign_of (fin t m e) s g l v = v.0

module _ (f : Format) (a c : ℕ) (C : 0 < c) (F : T (finite (round f false a c))) where
  abbrev x : Float
  x = round f false a c

  abbrev L : ℕ
  L = 2 ^ low f

  -- the fraction in units, how many places up the result stands, what is kept, and a step of it
  abbrev n : ℕ
  n = a * L

  abbrev k : ℕ
  k = drop (prec f) n c

  abbrev q : ℕ
  q = kept (prec f) n c

  abbrev unit : ℕ
  unit = c * 2 ^ k

  unit-pos : 0 < unit
  unit-pos = mul-pos C (pow_pos k)

  whole-units : (z : ℕ) → z * 2 ^ k * c ≡ z * unit
  whole-units z = mul_assoc z (2 ^ k) c ∙ ap (λ (i : ℕ). z * i) (mul_comm (2 ^ k) c)

  is : HasValue x false (q * 2 ^ k) L
  is = round_val f a c (round_under f a c F)

  best : Closest n unit q
  best = closest-is n unit unit-pos

  few : n / unit < 2 ^ prec f
  few = subst (λ (i : ℕ). i < 2 ^ prec f) (div-div-eq-div-mul n c (2 ^ k)) (kept-lt (prec f) (n / c))

  full : 0 < k → hid f ≤ n / unit
  full h =
      let top : 2 ^ (prec f - 1 + k) ≤ n / c = size_reaches (n / c) (prec f - 1 + k) (room (size (n / c)) (prec f) (two f) h) in
      let lead : hid f * 2 ^ k ≤ n / c = le_trans (le_of_eq (sym (pow-add 2 (prec f - 1) k))) top in
      subst (λ (i : ℕ). hid f ≤ i) (div-div-eq-div-mul n c (2 ^ k)) ((le-div_iff_mul-le (pow_pos k)).1 lead)
    where
      room : (z p : ℕ) → 2 ≤ p → 0 < z - p → p - 1 + (z - p) < z
      room z p P h = omega arith

  -- a value of z steps that is less than a step away ends as z does
  ends : (y : Float) (z : ℕ) → gap n (z * unit) < unit → HasValue y false (z * 2 ^ k) L → to_bits f y % 2 ≡ z % 2
  ends y z h v = let b = neighbours n unit z h in last-digit f y z k (le_trans b.1 few) (λ p. le_trans (full p) b.0) v

  -- a finer value lies below the first digit, and the fraction does not
  coarser : (g : ℕ) → 0 < k → g < hid f * 2 ^ k → gap n (q * unit) < gap n (g * c)
  coarser g p h =
      let b : g * c < hid f * unit = lt_of_lt_of_le (mul-lt-mul_of_pos_right h C) (le_of_eq (whole-units (hid f))) in
      let r : hid f * unit ≤ n = (le-div_iff_mul-le unit-pos).0 (full p) in
      let m = best.no-nearer (hid f) in
      omega arith

  no-nearer : (s : Bool) (g : ℕ) → Step f k g → gap n (q * 2 ^ k * c) ≤ apart_by s n (g * c)
  no-nearer s g t = rw (whole-units q) (by s t)
    where
      by : (s : Bool) → Step f k g → gap n (q * unit) ≤ apart_by s n (g * c)
      by true t = let m = best.no-nearer 0 in let z = zero-mul unit in omega arith
      by false (multiple z e) = rw (ap (λ (i : ℕ). i * c) e ∙ whole-units z) (best.no-nearer z)
      by false (finer p h) = let m = coarser g p h in omega arith

  -- the result is even and y odd, unless y is negative
  abbrev Tie : Float → Type 0
  Tie y = (to_bits f x % 2 ≡ 0) × (negative y ≡ false → to_bits f y % 2 ≡ 1)

  as-near : (y : Float) → T (fits f y) → (s : Bool) (g : ℕ) → HasValue y s g L → Step f k g → gap n (q * 2 ^ k * c) ≡ apart_by s n (g * c) → (y ≡ x) ⊎ Tie y
  as-near y h s g v t e = by s t v (rw (whole-units q) at e)
    where
      even : q % 2 ≡ 0 → to_bits f x % 2 ≡ 0
      even o = ends x q best.beside is ∙ o

      by : (s : Bool) → Step f k g → HasValue y s g L → gap n (q * unit) ≡ apart_by s n (g * c) → (y ≡ x) ⊎ Tie y
      by true t v e =
          let m = best.no-nearer 0 in
          let z = zero-mul unit in
          let o : q % 2 ≡ 0 = ⊎_elim (λ i. omega arith) (λ i. i.0) (best.as-near 0 (omega arith)) in
          inr (even o, λ p. absurd (true≢false (sym (sign_of y true g L v) ∙ p)))
      by false (multiple z o) v e =
          let w : HasValue y false (z * 2 ^ k) L = rw o at v in
          let d : gap n (q * unit) ≡ gap n (z * unit) = e ∙ ap (λ (i : ℕ). gap n i) (ap (λ (i : ℕ). i * c) o ∙ whole-units z) in
          ⊎_elim
          (λ i. inl (value-unique f y x false (q * 2 ^ k) L (pow_pos (low f)) h (round-fits f false a c) (rw i at w) is))
          (λ i. inr (even i.0, λ p. ends y z (rw d at best.beside) w ∙ i.1))
          (best.as-near z d)
      by false (finer p l) v e = let m = coarser g p l in absurd (omega arith)

  alike : (y : Float) → T (fits f y) → T (finite y) → apart a c x * den y ≡ apart a c y * den x → (y ≡ x) ⊎ Tie y
  alike y h t e =
      let u = in-steps f k y h t in
      as-near y h u.sign u.size u.value u.stands
      (le_antisymm (in_order a c L x y false u.sign (q * 2 ^ k) u.size (pow_pos (low f)) is u.value (le_of_eq e))
      (in_order a c L y x u.sign false u.size (q * 2 ^ k) (pow_pos (low f)) u.value is (le_of_eq (sym e))))

  -- what is rounded to is the nearest
  pub nearest-law : Nearest f a c (round f false a c)
  nearest-law = record {
    held = round-fits f false a c;
    number = F;
    plus = sign_of x false (q * 2 ^ k) L is;
    no-nearer = λ y h t.
        let u = in-steps f k y h t in
        crosswise a c L x y false u.sign (q * 2 ^ k) u.size (pow_pos (low f)) is u.value (no-nearer u.sign u.size u.stands);
    even = λ y h t e. ⊎_elim inl (λ o. inr o.0) (alike y h t e);
  }

  -- and the only one: of two that are as near, one would end in an odd digit
  pub nearest-only : (y : Float) → Nearest f a c y → y ≡ round f false a c
  nearest-only y m =
      let h = round-fits f false a c in
      let e : apart a c x * den y ≡ apart a c y * den x = le_antisymm (nearest-law.no-nearer y m.held m.number) (m.no-nearer x h F) in
      ⊎_elim (λ o. o) (λ o. ⊎_elim sym (λ i. absurd (clash (o.1 m.plus) i)) (m.even x h F (sym e))) (alike y m.held m.number e)
    where
      clash : to_bits f y % 2 ≡ 1 → to_bits f y % 2 ≡ 0 → ⊥
      clash o i = omega arith
