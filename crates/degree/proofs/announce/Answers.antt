-- `announce` meets its contract: a value that is none of the degrees passed is announced by those that are left. Assumes nothing.
use mathlib.Core.Path.{refl, sym, ◌∙◌}
use Prim.Native.Nat.{◌^◌, ◌≤◌}
use native.Mathlib.Omega.{arith}
use lib.Dec.{le→leb}
use lib.Ieee.{of_int, round, in_float}
use Rattle.plain.specs.Doubles.{printed}
use Rattle.degree.proofs.Degrees.{announced-here, announced-below, announced-none}
use Rattle.degree.proofs.announce.Goals as goal

pub loop-d-init : goal.loop-d-init
loop-d-init c = (omega arith, refl)

pub int_to_float-d : goal.int_to_float-d
unfolding in_float
int_to_float-d c = let d = c.loop-d.d in let h : d ≤ 2 ^ 53 = omega arith in le→leb d (2 ^ 53) h

pub returns-then-x-d : goal.returns-then-x-d
unfolding printed of_int round
returns-then-x-d c = let l = c.loop-d in sym (l.invariant.1 ∙ announced-here _ l.d (omega arith) c.if-x-d.true)

pub loop-d-preserved : goal.loop-d-preserved
unfolding printed of_int round
loop-d-preserved c = let l = c.loop-d in (omega arith, l.invariant.1 ∙ announced-below _ l.d (omega arith) c.if-x-d.false)

pub returns : goal.returns
returns c = let l = c.loop-d in sym (l.invariant.1 ∙ announced-none _ l.d (omega arith))
