-- The steps in their order are the documents': 10, 11, 23, 16 and 12 for the texts of any pool. Assumes nothing.
use mathlib.Core.Path.{◌≡◌, refl, ap, ◌∙◌}
use mathlib.Core.Bool.{Bool, true, false, ◌||◌, not}
use mathlib.Core.List.{List}
use Prim.Native.Nat.{ℕ, ◌+◌, ◌≤◌, ◌<◌}
use native.Mathlib.Nat.{zero-mod, zero-div}
use native.Mathlib.Omega.{arith}
use lib.Ieee.{Float}
use Rattle.std.specs.Prelude.{if◌then◌else◌, Option, Some, None, Result, Ok, Err}
use Rattle.refusal.specs.declared.Refusal.TheVariants.{UnknownBody, Incomplete}
use Rattle.rotation.specs.declared.elements.Polynomial.{Polynomial}
use Rattle.variables.specs.declared.variable.FindError.{FindError}
use Rattle.variables.specs.declared.variable.FindError.TheVariants as F
use Rattle.plain.proofs.Tests.{true-false}
use Rattle.layout.specs.State.{Pool}
use Rattle.wanted.specs.Elements.{there, numeric, list, few_values, polynomial, nutating, angles, enough_angles}
use Rattle.degree.specs.Degree.{degree}
use Rattle.globe.specs.Orientation.{by_elements}
use Rattle.wanted.specs.Steps.{values_of, presence, is_mixed, whole, base_of}
use Rattle.wanted.specs.declared.name.Wanted.TheVariants as W
use Rattle.wanted.proofs.Found.{not-there-empty}
use Rattle.wanted.proofs.Polynomials.{presence-most}
use Rattle.nutation.specs.Answer.{Answer, by_nutation}

neither : (a b : Bool) → (a || b) ≡ false → (a ≡ false) × (b ≡ false)
neither true b e = true-false e
neither false b e = (refl, e)

either_way : (b : Bool) (x : Answer) → (if b then x else x) ≡ x
either_way true x = refl
either_way false x = refl

presence-true : (numeric : Bool) (xs : List Float) → presence (values_of true numeric xs) ≡ 1
presence-true true xs = by (few_values xs) refl
  where
    by : (b : Bool) → few_values xs ≡ b → presence (values_of true true xs) ≡ 1
    by true e = rw e
    by false e = rw e
presence-true false xs = refl

presence-there : (there numeric : Bool) (xs : List Float) → 1 ≤ presence (values_of there numeric xs) → there ≡ true
presence-there true numeric xs h = refl
presence-there false numeric xs h = absurd (omega arith)

-- what is there is mixed exactly when it is not of numbers, however many it has
mixed-there : {there : Bool} (numeric : Bool) (xs : List Float) → there ≡ true → is_mixed (values_of there numeric xs) ≡ not numeric
mixed-there true xs e = rw e (by (few_values xs))
  where
    by : (b : Bool) → is_mixed (if b then Ok (polynomial xs) else Err F.TooMany) ≡ false
    by true = refl
    by false = refl
mixed-there false xs e = rw e

module _ (s : Pool) (n k : ℕ) (epoch : Float) where
  abbrev ra : Result Polynomial FindError
  ra = values_of (there s n W.PoleRa) (numeric s n W.PoleRa) (list s n W.PoleRa)

  abbrev dec : Result Polynomial FindError
  dec = values_of (there s n W.PoleDec) (numeric s n W.PoleDec) (list s n W.PoleDec)

  abbrev pm : Result Polynomial FindError
  pm = values_of (there s n W.Pm) (numeric s n W.Pm) (list s n W.Pm)

  -- each of the three that is there counts as one
  ra-one : there s n W.PoleRa ≡ true → presence ra ≡ 1
  ra-one e = rw e (presence-true (numeric s n W.PoleRa) (list s n W.PoleRa))

  dec-one : there s n W.PoleDec ≡ true → presence dec ≡ 1
  dec-one e = rw e (presence-true (numeric s n W.PoleDec) (list s n W.PoleDec))

  pm-one : there s n W.Pm ≡ true → presence pm ≡ 1
  pm-one e = rw e (presence-true (numeric s n W.Pm) (list s n W.Pm))

  none-by : (a b c : Bool) → there s n W.PoleRa ≡ a → there s n W.PoleDec ≡ b → there s n W.Pm ≡ c → presence ra + presence dec + presence pm ≡ 0
      → Err UnknownBody ≡ by_elements s n epoch (Some k)
  none-by true b c e f g h = absurd (omega (arith, ra-one e))
  none-by false true c e f g h = absurd (omega (arith, dec-one f))
  none-by false false true e f g h = absurd (omega (arith, pm-one g))
  none-by false false false e f g h = simp (e, f, g)

  pub none-there : presence ra + presence dec + presence pm ≡ 0 → Err UnknownBody ≡ by_elements s n epoch (Some k)
  none-there = none-by (there s n W.PoleRa) (there s n W.PoleDec) (there s n W.Pm) refl refl refl

  some-by : (a b c : Bool) → there s n W.PoleRa ≡ a → there s n W.PoleDec ≡ b → there s n W.Pm ≡ c → 0 < presence ra + presence dec + presence pm
      → presence ra + presence dec + presence pm < 3 → Err Incomplete ≡ by_elements s n epoch (Some k)
  some-by true true true e f g h i = absurd (omega (arith, ra-one e, dec-one f, pm-one g))
  some-by true true false e f g h i = simp (e, f, g)
  some-by true false c e f g h i = simp (e, f)
  some-by false true c e f g h i = simp (e, f)
  some-by false false true e f g h i = simp (e, f, g)
  some-by false false false e f g h i = absurd (let z : 0 < 0 = rw (e, f, g) at h in omega arith)

  pub some-missing : 0 < presence ra + presence dec + presence pm → presence ra + presence dec + presence pm < 3 → Err Incomplete ≡ by_elements s n epoch (Some k)
  some-missing = some-by (there s n W.PoleRa) (there s n W.PoleDec) (there s n W.Pm) refl refl refl

  -- ---- all three are there

  -- where no nutation variable is there, no angles are enough
  enough-by : (d : ℕ) (b : Bool) → nutating s n ≡ b
      → enough_angles d (angles s n k) (list s n W.NutPrecRa) (list s n W.NutPrecDec) (list s n W.NutPrecPm)
      ≡ (if nutating s n
      then enough_angles d (list s k W.NutPrecAngles) (list s n W.NutPrecRa) (list s n W.NutPrecDec) (list s n W.NutPrecPm)
      else true)
  enough-by d true e = simp e
  enough-by d false e =
      let a = neither (there s n W.NutPrecRa || there s n W.NutPrecDec) (there s n W.NutPrecPm) e in
      let b = neither (there s n W.NutPrecRa) (there s n W.NutPrecDec) a.0 in
      let x = not-there-empty s n W.NutPrecRa b.0 in
      let y = not-there-empty s n W.NutPrecDec b.1 in
      let z = not-there-empty s n W.NutPrecPm a.1 in
      simp (e, x, y, z, zero-mod (d + 1), zero-div (d + 1))

  module _ (e : there s n W.PoleRa ≡ true) (f : there s n W.PoleDec ≡ true) (g : there s n W.Pm ≡ true) where
    -- and of numbers: the counts decide
    counted-by : (d : ℕ) (x y z : Bool) → degree s n k ≡ Some d
        → few_values (list s n W.PoleRa) ≡ x → few_values (list s n W.PoleDec) ≡ y → few_values (list s n W.Pm) ≡ z
        → numeric s n W.PoleRa ≡ true → numeric s n W.PoleDec ≡ true → numeric s n W.Pm ≡ true
        → by_nutation s n k epoch (whole ra dec pm) ≡ by_elements s n epoch (Some k)
    counted-by d true true true q a b c u v w = simp (e, f, g, q, u, v, w, a, b, c, enough-by d (nutating s n) refl)
    counted-by d true true false q a b c u v w = simp (e, f, g, q, u, v, w, a, b, c, either_way)
    counted-by d true false z q a b c u v w = simp (e, f, g, q, u, v, w, a, b, either_way)
    counted-by d false y z q a b c u v w = simp (e, f, g, q, u, v, w, a, either_way)

    -- a bad degree is told before a string in one of them, and this before any count
    told-by : (h : Option ℕ) (x y z : Bool) → degree s n k ≡ h → numeric s n W.PoleRa ≡ x → numeric s n W.PoleDec ≡ y → numeric s n W.Pm ≡ z
        → by_nutation s n k epoch (if not x || not y || not z then Err F.Mixed else whole ra dec pm) ≡ by_elements s n epoch (Some k)
    told-by (Some d) true true true q u v w =
        counted-by d (few_values (list s n W.PoleRa)) (few_values (list s n W.PoleDec)) (few_values (list s n W.Pm)) q refl refl refl u v w
    told-by (Some d) true true false q u v w = simp (e, f, g, q, u, v, w)
    told-by (Some d) true false z q u v w = simp (e, f, g, q, u, v)
    told-by (Some d) false y z q u v w = simp (e, f, g, q, u)
    told-by None x y z q u v w = simp (e, f, g, q)

    told : by_nutation s n k epoch (base_of ra dec pm) ≡ by_elements s n epoch (Some k)
    told =
        let x = numeric s n W.PoleRa in
        let y = numeric s n W.PoleDec in
        let z = numeric s n W.Pm in
        let m : (is_mixed ra || is_mixed dec || is_mixed pm) ≡ (not x || not y || not z) =
        rw (mixed-there x (list s n W.PoleRa) e, mixed-there y (list s n W.PoleDec) f, mixed-there z (list s n W.Pm) g) in
        ap (λ (b : Bool). by_nutation s n k epoch (if b then Err F.Mixed else whole ra dec pm)) m ∙ told-by (degree s n k) x y z refl refl refl refl

  pub all_there : 3 ≤ presence ra + presence dec + presence pm
      → by_nutation s n k epoch (base_of ra dec pm) ≡ by_elements s n epoch (Some k)
  all_there h =
      let x = presence-most ra in
      let y = presence-most dec in
      let z = presence-most pm in
      told
      (presence-there (there s n W.PoleRa) (numeric s n W.PoleRa) (list s n W.PoleRa) (omega arith))
      (presence-there (there s n W.PoleDec) (numeric s n W.PoleDec) (list s n W.PoleDec) (omega arith))
      (presence-there (there s n W.Pm) (numeric s n W.Pm) (list s n W.Pm) (omega arith))
