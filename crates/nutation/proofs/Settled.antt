-- What four variables found in buffers and a degree settle is the answer by nutation, for any texts: 11 where angles are wanted and absent,
-- then 23 for a degree that is none, then 16 where one of the four has a string, then what the counts come to. Assumes nothing.
use mathlib.Core.Path.{◌≡◌, refl, sym, ap, ◌∙◌}
use mathlib.Core.Bool.{Bool, true, false, ◌&&◌, ◌||◌, not, and-false}
use mathlib.Core.List.{List, []}
use Prim.Native.Nat.{ℕ, ◌≤◌}
use borrow.Author.Tests.{not-true, not-false}
use lib.Ieee.{Float}
use lib.ListN.{length}
use Rattle.std.specs.Prelude.{if◌then◌else◌, Option, Some, None, Result}
use Rattle.plain.proofs.Tests.{both}
use Rattle.layout.specs.State.{Pool}
use Rattle.variables.specs.declared.variable.FindError.{FindError}
use Rattle.rotation.specs.Elements.{CUBIC}
use Rattle.wanted.specs.Elements.{there, numeric, list, nutating}
use Rattle.wanted.specs.Elements as Elements
use Rattle.wanted.specs.Steps.{is_there, is_mixed, Looks}
use Rattle.wanted.specs.declared.name.Wanted.TheVariants as W
use Rattle.wanted.proofs.Found.{not-there-empty, not-there-numeric}
use Rattle.degree.specs.Degree.{degree_where, degree, Low}
use Rattle.degree.proofs.Degrees.{degree-low}
use Rattle.refusal.specs.declared.Refusal.{Refusal}
use Rattle.nutation.specs.declared.terms.Lengths.{Lengths}
use Rattle.nutation.specs.Found.{any_there, any_mixed}
use Rattle.nutation.specs.Terms.{COEFFICIENTS, ANGLES, counted_of, terms_of}
use Rattle.nutation.specs.Answer.{Base, by_terms, by_angles, numeric_nutation, Answer, by_nutation}
use Rattle.nutation.proofs.Looked.{found-there, found-mixed}
use Rattle.nutation.proofs.Coefficients.{coefficients, decided}

-- one of four has a string exactly when not all are of numbers
one-mixed : (a r d p : Bool) → (not a || not r || not d || not p) ≡ not (r && d && p && a)
one-mixed true true true true = refl
one-mixed true true true false = refl
one-mixed true true false p = refl
one-mixed true false d p = refl
one-mixed false r d p = rw (and-false (r && d && p))

-- the angles that are looked at are there, and are of numbers
abbrev angles_there : Pool → (n k : ℕ) → Bool
angles_there s n k = if nutating s n then there s k W.NutPrecAngles else true

abbrev angles_numeric : Pool → (n k : ℕ) → Bool
angles_numeric s n k = if nutating s n then numeric s k W.NutPrecAngles else true

-- angles that are absent have no string
absent-angles : (s : Pool) (n k : ℕ) → angles_there s n k ≡ false → angles_numeric s n k ≡ true
absent-angles s n k = by (nutating s n)
  where
    by : (b : Bool) → (if b then there s k W.NutPrecAngles else true) ≡ false → (if b then numeric s k W.NutPrecAngles else true) ≡ true
    by true e = not-there-numeric s k W.NutPrecAngles e
    by false e = refl

module _ (s : Pool) (n k : ℕ) (epoch : Float) (base : Base) {zr zd zp za ra dec pm angles : List Float} (r d p a : Result ℕ FindError) (wanted : Bool)
    (lr : Looks (there s n W.NutPrecRa) (numeric s n W.NutPrecRa) (list s n W.NutPrecRa) zr r ra)
    (ld : Looks (there s n W.NutPrecDec) (numeric s n W.NutPrecDec) (list s n W.NutPrecDec) zd d dec)
    (lp : Looks (there s n W.NutPrecPm) (numeric s n W.NutPrecPm) (list s n W.NutPrecPm) zp p pm)
    (w : wanted ≡ any_there r d p)
    (la : Looks (if wanted then there s k W.NutPrecAngles else true) (if wanted then numeric s k W.NutPrecAngles else true) (if wanted then list s k W.NutPrecAngles else []) za a angles) where
  -- the answer, where `mixed` tells that a string is in one of pole and meridian
  abbrev answer : (mixed : Bool) → Answer
  answer mixed =
      by_angles epoch (if nutating s n then there s k W.NutPrecAngles else true) (not mixed && numeric_nutation s n k) (degree s n k)
      (Elements.angles s n k) (list s n W.NutPrecRa) (list s n W.NutPrecDec) (list s n W.NutPrecPm) base

  -- the angles are wanted where one of the three is there
  is-nutating : wanted ≡ nutating s n
  is-nutating = w ∙ rw (found-there r lr, found-there d ld, found-there p lp)

  looked : Looks (angles_there s n k) (angles_numeric s n k) (if nutating s n then list s k W.NutPrecAngles else []) za a angles
  looked = rw is-nutating at la

  -- one of the four is found to be mixed where not all are of numbers
  any-mixed : any_mixed a r d p ≡ not (numeric_nutation s n k)
  any-mixed =
      rw (found-mixed a looked (absent-angles s n k), found-mixed r lr (not-there-numeric s n W.NutPrecRa), found-mixed d ld (not-there-numeric s n W.NutPrecDec), found-mixed p lp (not-there-numeric s n W.NutPrecPm))
      (one-mixed (angles_numeric s n k) (numeric s n W.NutPrecRa) (numeric s n W.NutPrecDec) (numeric s n W.NutPrecPm))

  -- the angles are there, of a degree, and all four of numbers: the counts decide
  counted : (g : ℕ) → g ≤ CUBIC → degree s n k ≡ Some g → is_there a ≡ true → any_mixed a r d p ≡ false
      → length zr ≡ COEFFICIENTS → length zd ≡ COEFFICIENTS → length zp ≡ COEFFICIENTS → length za ≡ ANGLES
      → by_terms epoch angles ra dec pm base (counted_of g a r d p) ≡ answer false
  counted g low q e f hr hd hp ha =
      let t : angles_there s n k ≡ true = sym (found-there a looked) ∙ e in
      let u : numeric_nutation s n k ≡ true = not-false (numeric_nutation s n k) (sym any-mixed ∙ f) in
      let x = both (numeric s n W.NutPrecRa && numeric s n W.NutPrecDec && numeric s n W.NutPrecPm) (angles_numeric s n k) u in
      let y = both (numeric s n W.NutPrecRa && numeric s n W.NutPrecDec) (numeric s n W.NutPrecPm) x.0 in
      let z = both (numeric s n W.NutPrecRa) (numeric s n W.NutPrecDec) y.0 in
      decided epoch base _ _ _ _ za angles ra dec pm r d p
      (coefficients r lr z.0 hr (not-there-empty s n W.NutPrecRa))
      (coefficients d ld z.1 hd (not-there-empty s n W.NutPrecDec))
      (coefficients p lp y.1 hp (not-there-empty s n W.NutPrecPm))
      ha g low a looked t x.1
      ∙ rw (t, u, q)

  module _ (hr : length zr ≡ COEFFICIENTS) (hd : length zd ≡ COEFFICIENTS) (hp : length zp ≡ COEFFICIENTS) (ha : length za ≡ ANGLES) where
    -- 11, then 23, then 16 for pole and meridian, then 16 for the four, then the counts
    settled-by : (t : Bool) (g : Option ℕ) (mixed u : Bool) → is_there a ≡ t → any_mixed a r d p ≡ u → Low g → degree s n k ≡ g
        → by_terms epoch angles ra dec pm base (terms_of g mixed a r d p) ≡ answer mixed
    settled-by false g mixed u e f low q = rw (e, sym (found-there a looked) ∙ e)
    settled-by true None mixed u e f low q = rw (e, sym (found-there a looked) ∙ e, q)
    settled-by true (Some x) true u e f low q = rw (e, sym (found-there a looked) ∙ e, q)
    settled-by true (Some x) false true e f low q =
        rw (e, f, sym (found-there a looked) ∙ e, q, not-true (numeric_nutation s n k) (sym any-mixed ∙ f))
    settled-by true (Some x) false false e f low q = rw (e, f) (counted x (low.cubic x refl) q e f hr hd hp ha)

    -- whatever these came to
    pub settled : (g : Option ℕ) (mixed : Bool) (terms : Result Lengths Refusal) → g ≡ degree_where wanted s k → mixed ≡ is_mixed base → terms ≡ terms_of g mixed a r d p
        → by_terms epoch angles ra dec pm base terms ≡ by_nutation s n k epoch base
    settled g mixed terms q m e =
        ap (by_terms epoch angles ra dec pm base) e
        ∙ settled-by (is_there a) g mixed (any_mixed a r d p) refl refl (degree-low wanted s k q) (sym (q ∙ ap (λ (b : Bool). degree_where b s k) is-nutating))
        ∙ ap answer m
