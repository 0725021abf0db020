-- The steps of adding terms: what term i adds. Definitions only.
use Rattle.std.specs.Prelude.{◌≡◌, List, ℕ, ◌≤◌, ◌<◌, Float, length, get_or}
use Rattle.std.specs.Float.{nan}
use Rattle.plain.specs.Doubles.{◌⊕◌, ◌⊗◌}
use Rattle.angle.specs.declared.sine.SineCosine.{SineCosine}
use Rattle.rotation.specs.declared.nutation.Sums.{Sums}

-- coefficient i, where there is one, times the sine or the cosine of its angle
pub record Adds (sum : Float) (coefficients : List Float) (i : ℕ) (x r : Float) : Type 0 where
  pub there : i < length coefficients → r ≡ sum ⊕ get_or coefficients i nan ⊗ x
  pub beyond : length coefficients ≤ i → r ≡ sum

pub record AddsAll (sums : Sums) (pair : SineCosine) (i : ℕ) (ra dec pm : List Float) (r : Sums) : Type 0 where
  pub to_ra : Adds sums.ra ra i pair.0 r.ra
  pub to_dec : Adds sums.dec dec i pair.1 r.dec
  pub to_w : Adds sums.w pm i pair.0 r.w
