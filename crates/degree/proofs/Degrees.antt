-- A variable found over one place: which degree it is, or that it is none; and that a degree is no higher than the highest. Assumes nothing.
use mathlib.Core.Path.{◌≡◌, refl, sym, ap, subst, ◌∙◌}
use mathlib.Core.Bool.{Bool, true, false}
use mathlib.Core.List.{List, [], ◌∷◌}
use Prim.Native.Nat.{ℕ, zero, suc, ◌-◌, ◌≤◌, ◌<◌}
use native.Mathlib.Omega.{arith}
use borrow.Author.Tests.{eq-eqb}
use lib.Dec.{eqb, lit≤}
use lib.Ieee.{Float, nan, eq}
use lib.ListN.{length, get_or}
use Rattle.std.specs.Prelude.{if◌then◌else◌, Option, Some, None, Result, Ok}
use Rattle.plain.specs.Doubles.{printed}
use Rattle.rotation.specs.Elements.{LINEAR, CUBIC}
use Rattle.words.specs.Over.{over}
use Rattle.layout.specs.State.{Pool}
use Rattle.variables.specs.declared.variable.FindError.{FindError}
use Rattle.wanted.specs.Elements.{there, numeric, list}
use Rattle.wanted.specs.Steps.{Looks}
use Rattle.degree.specs.Degree.{announced, degree_of, degree_where, Low}
use Rattle.wanted.specs.declared.name.Wanted.TheVariants as W
use Rattle.wanted.proofs.Found.{counted}

-- ---- a value, from the highest degree down

module _ (x : Float) where
  pub announced-here : (d : ℕ) → 0 < d → eq x (printed d 0) ≡ true → announced d x ≡ Some d
  unfolding announced
  announced-here zero h e = absurd (omega arith)
  announced-here (suc d) h e = rw e

  pub announced-below : (d : ℕ) → 0 < d → eq x (printed d 0) ≡ false → announced d x ≡ announced (d - 1) x
  unfolding announced
  announced-below zero h e = absurd (omega arith)
  announced-below (suc d) h e = let k : suc d - 1 ≡ d = omega arith in rw (e, k)

  pub announced-none : (d : ℕ) → d ≤ 0 → announced d x ≡ None
  unfolding announced
  announced-none zero h = refl
  announced-none (suc d) h = absurd (omega arith)

-- ---- a variable

-- the one place has the one value
first-value : (xs : List Float) (b : Float) → length xs ≡ 1 → get_or (over 0 xs (b ∷ [])) 0 nan ≡ get_or xs 0 nan
unfolding over
first-value [] b h = absurd (omega arith)
first-value (x ∷ []) b h = refl
first-value (x ∷ y ∷ xs) b h = absurd (omega arith)

module _ {there numeric : Bool} {xs after : List Float} {b : Float} {r : Result ℕ FindError} (l : Looks there numeric xs (b ∷ []) r after) where
  pub one_value : r ≡ Ok 1 → (g : Option ℕ) → g ≡ announced CUBIC (get_or after 0 nan) → g ≡ degree_of there numeric xs
  one_value e g a =
      let f = counted l 1 e in
      let h : length xs ≡ 1 = sym f.count in
      rw (f.present, f.numbers, eq-eqb (length xs) 1 h)
      (a ∙ ap (announced CUBIC) (ap (λ (ys : List Float). get_or ys 0 nan) f.written ∙ first-value xs b h))

-- ---- no degree is higher than the highest

one-low : (d : ℕ) → d ≤ CUBIC → Low (Some d)
one-low d h = record { cubic = λ e k. let s : d ≡ e = cc in omega arith }

none-low : Low None
none-low = record { cubic = λ e k. absurd (let z : ◌≡◌ {A = ℕ} 0 1 = cc in omega arith) }

announced-low : (x : Float) (d : ℕ) → d ≤ CUBIC → Low (announced d x)
unfolding announced
announced-low x zero h = none-low
announced-low x (suc d) h = by (eq x (printed (suc d) 0)) (announced-low x d (omega arith))
  where
    by : (b : Bool) → Low (announced d x) → Low (if b then Some (suc d) else announced d x)
    by true l = one-low (suc d) h
    by false l = l

of_low : (there numeric : Bool) (xs : List Float) → Low (degree_of there numeric xs)
of_low true true xs = by (eqb (length xs) 1)
  where
    by : (b : Bool) → Low (if b then announced CUBIC (get_or xs 0 nan) else None)
    by true = announced-low (get_or xs 0 nan) CUBIC (lit≤ tt)
    by false = none-low
of_low true false xs = none-low
of_low false numeric xs = one-low LINEAR (lit≤ tt)

where-low : (wanted : Bool) (s : Pool) (k : ℕ) → Low (degree_where wanted s k)
unfolding degree_where
where-low true s k = of_low (there s k W.MaxPhaseDegree) (numeric s k W.MaxPhaseDegree) (list s k W.MaxPhaseDegree)
where-low false s k = one-low LINEAR (lit≤ tt)

pub degree-low : {g : Option ℕ} (wanted : Bool) (s : Pool) (k : ℕ) → g ≡ degree_where wanted s k → Low g
degree-low wanted s k e = subst Low (sym e) (where-low wanted s k)
