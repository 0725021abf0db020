-- `nest` meets its contract: the loop keeps the nested sum from place i of the group on. Assumes nothing.
use mathlib.Core.Path.{◌≡◌}
use Prim.Native.Nat.{◌+◌, ◌-◌}
use Rattle.rotation.specs.Elements.{nested}
use Rattle.rotation.proofs.nutation.nest.Given as goal

abbrev pub invariant-loop-i : goal.invariant-loop-i
invariant-loop-i l = l.sum ≡ nested l.t l.xs (l.at + l.i) (l.more - l.i)
