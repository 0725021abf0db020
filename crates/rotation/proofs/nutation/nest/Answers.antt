-- `nest` meets its contract: the loop keeps the nested sum from place i of the group on. Assumes nothing.
use mathlib.Core.Path.{refl}
use native.Mathlib.Omega.{arith}
use Rattle.rotation.proofs.Nested.{nested-last, nested-before}
use Rattle.rotation.proofs.nutation.nest.Goals as goal

pub loop-i-init : goal.loop-i-init
loop-i-init c = nested-last _ _ _ _

pub loop-i-preserved : goal.loop-i-preserved
loop-i-preserved c =
    let l = c.loop-i in
    nested-before _ _ _ l.i _ _ _ (omega arith) l.auto.i l.invariant refl
