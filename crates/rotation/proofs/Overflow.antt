-- No evaluation overflows: a step inward of an angle adds 43 to the exponent; a sum starts where its polynomial is, and each of at most 32
-- terms adds 2. Assumes nothing.
use mathlib.Core.Path.{◌≡◌}
use mathlib.Core.Bool.{true}
use mathlib.Core.List.{List}
use Prim.Native.Nat.{ℕ, zero, suc, ◌+◌, ◌*◌, ◌≤◌, ◌<◌}
use native.Mathlib.Omega.{arith}
use lib.Dec.{lit≤}
use lib.ListN.{length, get_or}
use lib.Ieee.{Float, nan}
use Rattle.plain.specs.Doubles.{◌⊕◌, ◌⊗◌}
use Rattle.plain.specs.Sizes.{Below}
use Rattle.plain.proofs.Bounded.{Under, finite-under, weaken_under, ⊕-under, ⊗-under}
use Rattle.angle.specs.Sine.{sine_cosine}
use Rattle.angle.specs.declared.sine.SineCosine.{SineCosine}
use Rattle.angle.proofs.Sizes.{sine-cosine-under, sine-finite}
use Rattle.rotation.specs.Epochs.{days, centuries, in_reach}
use Rattle.rotation.specs.Elements.{sine, cosine, CUBIC, groups, nested, angle, nutated, nutated_all}
use Rattle.rotation.specs.Evaluation.{evaluated}
use Rattle.rotation.specs.Finite.{SmallPolynomial, SmallValues, SmallInput}
use Rattle.rotation.specs.Overflow.{FiniteStep, FinitePolynomial, FiniteNest, FiniteAngle, FiniteTerms, FiniteSums, NeverOverflows}
use Rattle.rotation.specs.declared.epoch.Days.{Days}
use Rattle.rotation.specs.declared.epoch.Centuries.{Centuries}
use Rattle.rotation.specs.declared.elements.Polynomial.{Polynomial}
use Rattle.rotation.specs.declared.elements.Elements.{Elements}
use Rattle.rotation.proofs.Nested.{group-within}
use Rattle.rotation.proofs.Reach.{days-under, centuries-under}
use Rattle.rotation.proofs.Finite.{oriented-finite, matrix-finite}

small : {x : Float} → Below 200 x → Under 200 x
small h = record { is = h }

-- ---- c + x·y, x being T or D
module _ {k : ℕ} {c x y : Float} (low : 200 ≤ k) (high : k ≤ 900) (C : Under 200 c) (X : Under 40 x) (Y : Under k y) where
  product-under : Under (suc (40 + k)) (x ⊗ y)
  product-under = ⊗-under {j = 40} {k = k} (omega arith) X Y

  sum-under : Under (suc (suc (suc (40 + k)))) (c ⊕ x ⊗ y)
  sum-under = ⊕-under {j = suc (40 + k)} (omega arith) (weaken_under (suc (40 + k)) (omega arith) C) product-under

  step-finite : FiniteStep c x y
  step-finite = record { product = finite-under _ product-under; sum = finite-under _ sum-under }

module _ (p : Polynomial) (x : Float) (P : SmallPolynomial p) (X : Under 40 x) where
  inner-under : Under 243 (p.c1 ⊕ x ⊗ p.c2)
  inner-under = sum-under {k = 200} (lit≤ tt) (lit≤ tt) (small P.c1) X (small P.c2)

  polynomial-under : Under 434 (p.c0 ⊕ x ⊗ (p.c1 ⊕ x ⊗ p.c2))
  polynomial-under = weaken_under 434 (lit≤ tt) (sum-under {k = 243} (lit≤ tt) (lit≤ tt) (small P.c0) X inner-under)

  polynomial-finite : FinitePolynomial p x
  polynomial-finite =
      record {
        inner = step-finite {k = 200} (lit≤ tt) (lit≤ tt) (small P.c1) X (small P.c2);
        outer = step-finite {k = 243} (lit≤ tt) (lit≤ tt) (small P.c0) X inner-under;
      }

-- ---- an angle
module _ (t : Centuries) (xs : List Float) (T : Under 40 t.0) (X : SmallValues xs) where
  -- a step inward adds 43 to the exponent at most
  nested-under : (at more : ℕ) → more ≤ CUBIC → at + more < length xs → Under (200 + 43 * more) (nested t xs at more)
  unfolding nested
  nested-under at zero low h = small (X.each at (omega arith))
  nested-under at (suc more) low h =
      let rest = nested-under (at + 1) more (omega arith) (omega arith) in
      weaken_under (200 + 43 * suc more) (omega arith)
      (sum-under {k = 200 + 43 * more} (omega arith) (omega arith) (small (X.each at (omega arith))) T rest)

  nest-finite : (at more : ℕ) → more ≤ CUBIC → at + more < length xs → FiniteNest t xs at more
  unfolding FiniteNest
  nest-finite at zero low h = tt
  nest-finite at (suc more) low h =
      let rest = nested-under (at + 1) more (omega arith) (omega arith) in (
        step-finite {k = 200 + 43 * more} (omega arith) (omega arith) (small (X.each at (omega arith))) T rest,
        nest-finite (at + 1) more (omega arith) (omega arith),
      )

-- ---- the terms
module _ (t : Centuries) (degree : ℕ) (angles : List Float) where
  angle-finite : degree ≤ CUBIC → Under 40 t.0 → SmallValues angles → (i : ℕ) → i < groups degree (length angles) → FiniteAngle t degree angles i
  angle-finite low T A i l =
      let h = group-within degree i (length angles) l in
      record {
        degrees = nest-finite t angles T A ((degree + 1) * i) degree low h;
        pair = sine-finite _ (finite-under _ (nested-under t angles T A ((degree + 1) * i) degree low h));
      }

  module _ (part : SineCosine → Float) (bounded : (x : Float) → Under 233 (part (sine_cosine x)))
      (cs : List Float) (start : Float) (few : length cs ≤ 32) (C : SmallValues cs) (S : Under 434 start) where
    term-under : (i : ℕ) → i < length cs → Under 434 (get_or cs i nan ⊗ part (sine_cosine (angle t degree angles i)))
    term-under i h = ⊗-under {j = 200} {k = 233} (lit≤ tt) (small (C.each i h)) (bounded _)

    -- a term adds 2 to the exponent at most
    nutated-under : (i : ℕ) → i ≤ length cs → Under (434 + 2 * i) (nutated part t degree angles cs start i)
    unfolding nutated
    nutated-under zero h = S
    nutated-under (suc i) h =
        let x = nutated-under i (omega arith) in
        let y = weaken_under (434 + 2 * i) (omega arith) (term-under i (omega arith)) in
        weaken_under (434 + 2 * suc i) (omega arith) (⊕-under {j = 434 + 2 * i} (omega arith) x y)

    terms-finite : FiniteTerms part t degree angles cs start
    terms-finite = record { products = λ i h. finite-under _ (term-under i h); sums = λ i h. finite-under _ (nutated-under i h) }

-- ---- every step
module _ (e : Elements) (d : Days) (t : Centuries) (degree : ℕ) (angles ra dec pm : List Float) where
  sums-finite : SmallInput e degree angles ra dec pm → Under 40 d.0 → Under 40 t.0 → FiniteSums e d t degree angles ra dec pm
  sums-finite s D T =
      let sines : (x : Float) → Under 233 (sine_cosine x).0 = λ x. (sine-cosine-under x).sine in
      let cosines : (x : Float) → Under 233 (sine_cosine x).1 = λ x. (sine-cosine-under x).cosine in
      let n = s.few in
      let l = s.enough in
      record {
        D = finite-under _ D;
        T = finite-under _ T;
        start_ra = polynomial-finite e.ra _ s.pole_ra T;
        start_dec = polynomial-finite e.dec _ s.pole_dec T;
        start_w = polynomial-finite e.pm _ s.meridian D;
        each_angle = angle-finite t degree angles l.low T s.system;
        terms_ra = terms-finite t degree angles sine sines ra _ (omega arith) s.for_ra (polynomial-under e.ra _ s.pole_ra T);
        terms_dec = terms-finite t degree angles cosine cosines dec _ (omega arith) s.for_dec (polynomial-under e.dec _ s.pole_dec T);
        terms_w = terms-finite t degree angles sine sines pm _ (omega arith) s.for_pm (polynomial-under e.pm _ s.meridian D);
      }

pub never-overflows : (e : Elements) (epoch : Float) (degree : ℕ) (angles ra dec pm : List Float)
    → in_reach epoch ≡ true → SmallInput e degree angles ra dec pm → NeverOverflows e epoch degree angles ra dec pm
unfolding evaluated nutated_all
never-overflows e epoch degree angles ra dec pm h s =
    let d = days epoch in
    let f = sums-finite e d (centuries d) degree angles ra dec pm s (weaken_under 40 (lit≤ tt) (days-under epoch h)) (centuries-under epoch h) in
    let dec-finite = f.terms_dec.sums (length dec) (omega arith) in
    record {
      sums = f;
      matrix = matrix-finite _ (f.terms_ra.sums (length ra) (omega arith)) dec-finite (f.terms_w.sums (length pm) (omega arith));
      answer = oriented-finite _ _ _ dec-finite;
    }
