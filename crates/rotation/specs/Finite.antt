-- "every held value finite and of size below 2^200, so that no evaluation overflows": what is evaluated, and what is answered. Definitions
-- only.
use Rattle.std.specs.Prelude.{ℕ, ◌≤◌, ◌<◌, ◌≡◌, true, List, Float, length, get_or}
use Rattle.std.specs.Float.{nan}
use Rattle.std.specs.Float.Ieee.Scale.{finite}
use Rattle.plain.specs.Sizes.{Below}
use Rattle.rotation.specs.Elements.{GROUPS, groups, Enough}
use Rattle.rotation.specs.declared.elements.Polynomial.{Polynomial}
use Rattle.rotation.specs.declared.elements.Elements.{Elements}
use Rattle.rotation.specs.declared.matrix.Orientation.{Orientation}

-- each of the twelve numbers is neither a NaN nor an infinity
pub record Finite (o : Orientation) : Type 0 where
  pub ra : finite o.ra ≡ true
  pub dec : finite o.dec ≡ true
  pub w : finite o.w ≡ true
  pub m11 : finite o.m11 ≡ true
  pub m12 : finite o.m12 ≡ true
  pub m13 : finite o.m13 ≡ true
  pub m21 : finite o.m21 ≡ true
  pub m22 : finite o.m22 ≡ true
  pub m23 : finite o.m23 ≡ true
  pub m31 : finite o.m31 ≡ true
  pub m32 : finite o.m32 ≡ true
  pub m33 : finite o.m33 ≡ true

-- values of size below 2 ^ 200, as a pool holds them
pub record SmallPolynomial (p : Polynomial) : Type 0 where
  pub c0 : Below 200 p.c0
  pub c1 : Below 200 p.c1
  pub c2 : Below 200 p.c2

pub record SmallValues (xs : List Float) : Type 0 where
  pub each : (i : ℕ) → i < length xs → Below 200 (get_or xs i nan)

-- of elements, of at most 32 angles, and of coefficients that each have one
pub record SmallInput (e : Elements) (degree : ℕ) (angles ra dec pm : List Float) : Type 0 where
  pub pole_ra : SmallPolynomial e.ra
  pub pole_dec : SmallPolynomial e.dec
  pub meridian : SmallPolynomial e.pm
  pub few : groups degree (length angles) ≤ GROUPS
  pub enough : Enough degree angles ra dec pm
  pub system : SmallValues angles
  pub for_ra : SmallValues ra
  pub for_dec : SmallValues dec
  pub for_pm : SmallValues pm
