-- The answered right ascension and meridian are in the turn: both come out of wrap. Assumes nothing.
use Prim.Native.Nat.{ℕ}
use mathlib.Core.List.{List}
use lib.Ieee.{Float}
use Rattle.angle.proofs.Range.{wrapped-in-turn}
use Rattle.rotation.specs.Range.{InRange}
use Rattle.rotation.specs.Matrix.{oriented}
use Rattle.rotation.specs.Evaluation.{evaluated}
use Rattle.rotation.specs.declared.elements.Elements.{Elements}

pub oriented-in-range : (ra dec w : Float) → InRange (oriented ra dec w)
unfolding oriented
oriented-in-range ra dec w = record { ra = wrapped-in-turn ra; w = wrapped-in-turn w }

pub evaluated-in-range : (e : Elements) (epoch : Float) (degree : ℕ) (angles ra dec pm : List Float) → InRange (evaluated e epoch degree angles ra dec pm)
unfolding evaluated
evaluated-in-range e epoch degree angles ra dec pm = oriented-in-range _ _ _
