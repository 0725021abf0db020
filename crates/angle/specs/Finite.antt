-- "so that no evaluation overflows": every result on the way to a wrapped angle, and to a sine and a cosine. Definitions only.
use Rattle.std.specs.Prelude.{◌≡◌, true, List, [], ◌∷◌, Float}
use Rattle.std.specs.Float.Ieee.Scale.{finite}
use Rattle.plain.specs.Doubles.{◌⊖◌, ◌⊗◌, ◌⊘◌, remainder, printed, one}
use Rattle.angle.specs.Wrap.{turn, lifted, wrapped}
use Rattle.angle.specs.Series.{closing, sine_divisors, cosine_divisors}
use Rattle.angle.specs.Sine.{radians, sine_cosine}

-- r = x % 360, and r + 360 if r < 0
pub record FiniteWrap (x : Float) : Type 0 where
  pub rest : finite (remainder x turn) ≡ true
  pub sum : finite (lifted (remainder x turn)) ≡ true

-- q, and for each p that remains z / p, (z / p)·q and the next q
abbrev pub FiniteSeries : (z q : Float) → List Float → Type 0
FiniteSeries z q [] = finite q ≡ true
FiniteSeries z q (p ∷ ps) =
    (finite q ≡ true) × (finite (z ⊘ p) ≡ true) × (finite (z ⊘ p ⊗ q) ≡ true) × FiniteSeries z (one ⊖ z ⊘ p ⊗ q) ps

-- y, t and z, the two series, and S; C is the end of its series
pub record FinitePair (y : Float) : Type 0 where
  pub taken : finite y ≡ true
  pub t : finite (radians y) ≡ true
  pub z : finite (radians y ⊗ radians y) ≡ true
  pub for_s : FiniteSeries (radians y ⊗ radians y) one sine_divisors
  pub for_c : FiniteSeries (radians y ⊗ radians y) one cosine_divisors
  pub S : finite (radians y ⊗ closing (radians y ⊗ radians y) one sine_divisors) ≡ true

-- of x degrees, whichever y is taken
pub record FiniteSine (x : Float) : Type 0 where
  pub wrap : FiniteWrap x
  pub below45 : FinitePair (wrapped x)
  pub below135 : FinitePair (wrapped x ⊖ printed 90 0)
  pub below225 : FinitePair (wrapped x ⊖ printed 180 0)
  pub below315 : FinitePair (wrapped x ⊖ printed 270 0)
  pub beyond : FinitePair (wrapped x ⊖ turn)
  pub sine : finite (sine_cosine x).0 ≡ true
  pub cosine : finite (sine_cosine x).1 ≡ true
