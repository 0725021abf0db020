-- The evaluation as it was before document 02's K8: "Angle i is a + T·b." Definitions only: with it a theorem can say that "Degree 1 gives the
-- bits it gave before."
use Rattle.std.specs.Prelude.{◌≡◌, List, ℕ, zero, suc, ◌+◌, ◌*◌, Float, length, get_or}
use Rattle.std.specs.Float.{nan}
use Rattle.plain.specs.Doubles.{◌⊕◌, ◌⊗◌}
use Rattle.angle.specs.Sine.{sine_cosine}
use Rattle.angle.specs.declared.sine.SineCosine.{SineCosine}
use Rattle.rotation.specs.Epochs.{days, centuries}
use Rattle.rotation.specs.Elements.{sine, cosine, LINEAR, angle}
use Rattle.rotation.specs.Evaluation.{starts, evaluated}
use Rattle.rotation.specs.Matrix.{oriented}
use Rattle.rotation.specs.declared.epoch.Centuries.{Centuries}
use Rattle.rotation.specs.declared.elements.Elements.{Elements}
use Rattle.rotation.specs.declared.matrix.Orientation.{Orientation}

-- angle i of a list a, b, a, b, ..: a + T·b
abbrev pub angle_before : Centuries → List Float → ℕ → Float
angle_before t angles i = get_or angles (2 * i) nan ⊕ t.0 ⊗ get_or angles (2 * i + 1) nan

unfoldable pub nutated_before : (part : SineCosine → Float) → Centuries → (angles coefficients : List Float) → (start : Float) → (n : ℕ) → Float
nutated_before part t angles cs start zero = start
nutated_before part t angles cs start (suc i) =
    nutated_before part t angles cs start i ⊕ get_or cs i nan ⊗ part (sine_cosine (angle_before t angles i))

unfoldable pub evaluated_before : Elements → (epoch : Float) → (angles ra dec pm : List Float) → Orientation
unfolding nutated_before
evaluated_before e epoch angles ra dec pm =
    let d = days epoch in
    let t = centuries d in
    let start = starts e d t in
    oriented (nutated_before sine t angles ra start.ra (length ra))
    (nutated_before cosine t angles dec start.dec (length dec))
    (nutated_before sine t angles pm start.w (length pm))

-- every angle of degree 1, and so every orientation
pub record LinearAsBefore : Type 0 where
  pub angles : (t : Centuries) (angles : List Float) (i : ℕ) → angle t LINEAR angles i ≡ angle_before t angles i
  pub orientations :
      (e : Elements) (epoch : Float) (angles ra dec pm : List Float)
      → evaluated e epoch LINEAR angles ra dec pm ≡ evaluated_before e epoch angles ra dec pm
