-- "RA and DEC start as c0 + T·(c1 + T·c2); W as c0 + D·(c1 + D·c2). .. In rising i, add coefficient times sine to RA and W, times cosine to
-- DEC." "Angles then come in groups of degree plus one coefficients, evaluated nested in T from the highest inward as RA is, at most 32
-- groups." Definitions only.
use Rattle.std.specs.Prelude.{List, ℕ, zero, suc, ◌+◌, ◌*◌, ◌/◌, ◌≤◌, Float, length, get_or}
use Rattle.std.specs.Float.{nan}
use Rattle.plain.specs.Doubles.{◌⊕◌, ◌⊗◌}
use Rattle.angle.specs.Sine.{sine_cosine}
use Rattle.angle.specs.declared.sine.SineCosine.{SineCosine}
use Rattle.rotation.specs.declared.epoch.Days.{Days}
use Rattle.rotation.specs.declared.epoch.Centuries.{Centuries}
use Rattle.rotation.specs.declared.elements.Polynomial.{Polynomial}
use Rattle.rotation.specs.declared.nutation.Sums.{Sums}

abbrev pub value_at : Polynomial → Float → Float
value_at p x = p.c0 ⊕ x ⊗ (p.c1 ⊕ x ⊗ p.c2)

abbrev pub by_century : Polynomial → Centuries → Float
by_century p t = value_at p t.0

abbrev pub by_day : Polynomial → Days → Float
by_day p d = value_at p d.0

-- the two parts of a pair
abbrev pub sine : SineCosine → Float
sine p = p.0

abbrev pub cosine : SineCosine → Float
cosine p = p.1

-- ---- angles

-- the degree of a + T·b, and the highest degree there is
abbrev pub LINEAR : ℕ
LINEAR = 1

abbrev pub CUBIC : ℕ
CUBIC = 3

-- the most angles of a system
abbrev pub GROUPS : ℕ
GROUPS = 32

-- how many whole groups so many values are
abbrev pub groups : (degree count : ℕ) → ℕ
groups degree count = count / (degree + 1)

-- the value at a place of a list and so many more after it, nested in T from the highest inward: a, then a + T·b, then a + T·(b + T·c), ..
unfoldable pub nested : Centuries → List Float → (at more : ℕ) → Float
nested t xs at zero = get_or xs at nan
nested t xs at (suc more) = get_or xs at nan ⊕ t.0 ⊗ nested t xs (at + 1) more

-- angle i of a list of groups
abbrev pub angle : Centuries → (degree : ℕ) → List Float → ℕ → Float
angle t degree angles i = nested t angles ((degree + 1) * i) degree

-- ---- terms

-- the start, with the first n coefficients times sine or cosine added in rising order
unfoldable pub nutated : (part : SineCosine → Float) → Centuries → (degree : ℕ) → (angles coefficients : List Float) → (start : Float) → (n : ℕ) → Float
unfolding nested
nutated part t degree angles cs start zero = start
nutated part t degree angles cs start (suc i) =
    nutated part t degree angles cs start i ⊕ get_or cs i nan ⊗ part (sine_cosine (angle t degree angles i))

-- "sine to RA and W, .. cosine to DEC": each with all its coefficients
unfoldable pub nutated_all : Centuries → (degree : ℕ) → (angles ra dec pm : List Float) → Sums → Sums
unfolding nutated
nutated_all t degree angles ra dec pm start =
    record {
      ra = nutated sine t degree angles ra start.ra (length ra);
      dec = nutated cosine t degree angles dec start.dec (length dec);
      w = nutated sine t degree angles pm start.w (length pm);
    }

-- the degree is one that there is, and each variable has an angle for every coefficient
pub record Enough (degree : ℕ) (angles ra dec pm : List Float) : Type 0 where
  pub low : degree ≤ CUBIC
  pub for_ra : length ra ≤ groups degree (length angles)
  pub for_dec : length dec ≤ groups degree (length angles)
  pub for_pm : length pm ≤ groups degree (length angles)
