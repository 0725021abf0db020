-- `announce` meets its contract: a value that is none of the degrees passed is announced by those that are left. Assumes nothing.
use mathlib.Core.Path.{◌≡◌}
use Prim.Native.Nat.{◌≤◌}
use Rattle.rotation.specs.Elements.{CUBIC}
use Rattle.degree.specs.Degree.{announced}
use Rattle.degree.proofs.announce.Given as goal

abbrev pub invariant-loop-d : goal.invariant-loop-d
invariant-loop-d l = (l.d ≤ CUBIC) × (announced CUBIC l.x ≡ announced l.d l.x)
