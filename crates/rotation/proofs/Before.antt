-- Degree 1 gives the bits it gave before: an angle is a + T·b by what `nested` is, and term by term so is all that is made of it.
-- Assumes nothing.
use mathlib.Core.Path.{◌≡◌, refl}
use mathlib.Core.List.{List}
use Prim.Native.Nat.{ℕ, zero, suc}
use lib.Ieee.{Float}
use Rattle.angle.specs.declared.sine.SineCosine.{SineCosine}
use Rattle.rotation.specs.Elements.{LINEAR, nested, angle, nutated, nutated_all}
use Rattle.rotation.specs.Evaluation.{evaluated}
use Rattle.rotation.specs.Before.{angle_before, nutated_before, evaluated_before, LinearAsBefore}
use Rattle.rotation.specs.declared.epoch.Centuries.{Centuries}
use Rattle.rotation.specs.declared.elements.Elements.{Elements}

linear-angle : (t : Centuries) (angles : List Float) (i : ℕ) → angle t LINEAR angles i ≡ angle_before t angles i
unfolding nested
linear-angle t angles i = refl

linear-terms : (part : SineCosine → Float) (t : Centuries) (angles cs : List Float) (start : Float) (n : ℕ)
    → nutated part t LINEAR angles cs start n ≡ nutated_before part t angles cs start n
unfolding nutated nutated_before
linear-terms part t angles cs start zero = refl
linear-terms part t angles cs start (suc i) = rw (linear-terms part t angles cs start i, linear-angle t angles i)

linear-evaluated : (e : Elements) (epoch : Float) (angles ra dec pm : List Float)
    → evaluated e epoch LINEAR angles ra dec pm ≡ evaluated_before e epoch angles ra dec pm
unfolding evaluated nutated_all evaluated_before
linear-evaluated e epoch angles ra dec pm = simp linear-terms

pub linear-as-before : LinearAsBefore
linear-as-before = record { angles = linear-angle; orientations = linear-evaluated }
