-- "so that no evaluation overflows": every result on the way to an orientation is finite. Wrap makes a 0 of a NaN and of an infinity, so that
-- the twelve numbers alone do not tell. Definitions only.
use Rattle.std.specs.Prelude.{ℕ, zero, suc, ◌+◌, ◌*◌, ◌≤◌, ◌<◌, ◌≡◌, true, List, Float, length, get_or}
use Rattle.std.specs.Float.{nan}
use Rattle.std.specs.Float.Ieee.Scale.{finite}
use Rattle.plain.specs.Doubles.{◌⊕◌, ◌⊗◌}
use Rattle.angle.specs.Wrap.{wrapped}
use Rattle.angle.specs.Sine.{sine_cosine}
use Rattle.angle.specs.Finite.{FiniteWrap, FiniteSine}
use Rattle.angle.specs.declared.sine.SineCosine.{SineCosine}
use Rattle.rotation.specs.Epochs.{days, centuries}
use Rattle.rotation.specs.Elements.{sine, cosine, groups, nested, angle, nutated}
use Rattle.rotation.specs.Evaluation.{starts, unwrapped, evaluated}
use Rattle.rotation.specs.Finite.{Finite}
use Rattle.rotation.specs.declared.epoch.Days.{Days}
use Rattle.rotation.specs.declared.epoch.Centuries.{Centuries}
use Rattle.rotation.specs.declared.elements.Polynomial.{Polynomial}
use Rattle.rotation.specs.declared.elements.Elements.{Elements}
use Rattle.rotation.specs.declared.nutation.Sums.{Sums}

-- c + x·y: the product and the sum
pub record FiniteStep (c x y : Float) : Type 0 where
  pub product : finite (x ⊗ y) ≡ true
  pub sum : finite (c ⊕ x ⊗ y) ≡ true

-- "c0 + T·(c1 + T·c2)", or with D
pub record FinitePolynomial (p : Polynomial) (x : Float) : Type 0 where
  pub inner : FiniteStep p.c1 x p.c2
  pub outer : FiniteStep p.c0 x (p.c1 ⊕ x ⊗ p.c2)

-- "nested in T from the highest inward": each step of it
unfoldable pub FiniteNest : Centuries → List Float → (at more : ℕ) → Type 0
unfolding nested
FiniteNest t xs at zero = Unit {0}
FiniteNest t xs at (suc more) = FiniteStep (get_or xs at nan) t.0 (nested t xs (at + 1) more) × FiniteNest t xs (at + 1) more

-- an angle, and its sine and cosine
pub record FiniteAngle (t : Centuries) (degree : ℕ) (angles : List Float) (i : ℕ) : Type 0 where
  pub degrees : FiniteNest t angles ((degree + 1) * i) degree
  pub pair : FiniteSine (angle t degree angles i)

-- "In rising i, add coefficient times sine": each product, and the sum with the first i of them, which is the start where i is 0
pub record FiniteTerms (part : SineCosine → Float) (t : Centuries) (degree : ℕ) (angles cs : List Float) (start : Float) : Type 0 where
  pub products : (i : ℕ) → i < length cs → finite (get_or cs i nan ⊗ part (sine_cosine (angle t degree angles i))) ≡ true
  pub sums : (i : ℕ) → i ≤ length cs → finite (nutated part t degree angles cs start i) ≡ true

-- Ra, DEC and W, up to where they are wrapped
pub record FiniteSums (e : Elements) (d : Days) (t : Centuries) (degree : ℕ) (angles ra dec pm : List Float) : Type 0 where
  pub D : finite d.0 ≡ true
  pub T : finite t.0 ≡ true
  pub start_ra : FinitePolynomial e.ra t.0
  pub start_dec : FinitePolynomial e.dec t.0
  pub start_w : FinitePolynomial e.pm d.0
  pub each_angle : (i : ℕ) → i < groups degree (length angles) → FiniteAngle t degree angles i
  pub terms_ra : FiniteTerms sine t degree angles ra (starts e d t).ra
  pub terms_dec : FiniteTerms cosine t degree angles dec (starts e d t).dec
  pub terms_w : FiniteTerms sine t degree angles pm (starts e d t).w

-- the products of the matrix, of the pairs of right ascension, declination and meridian
pub record FiniteProducts (a d w : SineCosine) : Type 0 where
  pub cw-sa : finite (cosine w ⊗ sine a) ≡ true
  pub cw-ca : finite (cosine w ⊗ cosine a) ≡ true
  pub sw-sa : finite (sine w ⊗ sine a) ≡ true
  pub sw-ca : finite (sine w ⊗ cosine a) ≡ true
  pub sw-sd : finite (sine w ⊗ sine d) ≡ true
  pub cw-sd : finite (cosine w ⊗ sine d) ≡ true
  pub sw-sd-ca : finite (sine w ⊗ sine d ⊗ cosine a) ≡ true
  pub sw-sd-sa : finite (sine w ⊗ sine d ⊗ sine a) ≡ true
  pub cw-sd-ca : finite (cosine w ⊗ sine d ⊗ cosine a) ≡ true
  pub cw-sd-sa : finite (cosine w ⊗ sine d ⊗ sine a) ≡ true

-- Ra, DEC and W as they are summed, wrapped, and their matrix
pub record FiniteMatrix (s : Sums) : Type 0 where
  pub Ra : finite s.ra ≡ true
  pub DEC : finite s.dec ≡ true
  pub W : finite s.w ≡ true
  pub wrap_ra : FiniteWrap s.ra
  pub wrap_w : FiniteWrap s.w
  pub pair_ra : FiniteSine (wrapped s.ra)
  pub pair_dec : FiniteSine s.dec
  pub pair_w : FiniteSine (wrapped s.w)
  pub products : FiniteProducts (sine_cosine (wrapped s.ra)) (sine_cosine s.dec) (sine_cosine (wrapped s.w))

pub record NeverOverflows (e : Elements) (epoch : Float) (degree : ℕ) (angles ra dec pm : List Float) : Type 0 where
  pub sums : FiniteSums e (days epoch) (centuries (days epoch)) degree angles ra dec pm
  pub matrix : FiniteMatrix (unwrapped e epoch degree angles ra dec pm)
  pub answer : Finite (evaluated e epoch degree angles ra dec pm)
