-- `position_on` meets its contract: the position stays between the two ends, which come together. Assumes nothing.
use Prim.Native.Nat.{ℕ}
use mathlib.Core.Path.{◌≡◌, refl, ap, ◌∙◌}
use native.Mathlib.Omega.{arith}
use lib.Ieee.{Float, binary64, of_bits, of_int, round, le}
use Rattle.plain.specs.Doubles.{◌⊗◌, ◌⊘◌}
use Rattle.drive.specs.Ring.{double, spacing, angle_at, reached}
use Rattle.drive.proofs.Positions.{bounds, whole-ring, lower, raise, found}
use Rattle.drive.proofs.ring.position_on.Goals as goal

-- 360 as the code writes it
turn_is : double 360 ≡ of_bits binary64 4645040803167600640
unfolding of_int of_bits round
turn_is = refl

reached-is : (ring : ℕ) (w : Float) (n : ℕ) → reached ring w n ≡ le (double n ⊗ (of_bits binary64 4645040803167600640 ⊘ double ring)) w
unfolding angle_at spacing
reached-is ring w n = ap (λ (x : Float). le (double n ⊗ (x ⊘ double ring)) w) turn_is

pub int_to_float-spacing : goal.int_to_float-spacing
int_to_float-spacing c = tt

pub loop-low-init : goal.loop-low-init
loop-low-init c = whole-ring c.args.ring (bounds c.args.ring c.requires.0) c.args.w c.requires.1

pub overflow_add-low : goal.overflow_add-low
overflow_add-low c = omega (arith, bounds c.args.ring c.requires.0)

pub overflow_add-middle : goal.overflow_add-middle
overflow_add-middle c = omega (arith, bounds c.args.ring c.requires.0)

pub int_to_float-middle : goal.int_to_float-middle
int_to_float-middle c = tt

pub loop-low-preserved-then-middle-spacing : goal.loop-low-preserved-then-middle-spacing
loop-low-preserved-then-middle-spacing c =
    raise c.args.ring c.args.w c.loop-low.low c.loop-low.high c.loop-low.invariant _ (omega arith)
    (reached-is c.args.ring c.args.w _ ∙ c.if-middle-spacing.true)

pub loop-low-preserved : goal.loop-low-preserved
loop-low-preserved c =
    lower c.args.ring (bounds c.args.ring c.requires.0) c.args.w c.requires.1 c.loop-low.low c.loop-low.high _ c.loop-low.invariant (omega arith) (omega arith)
    (reached-is c.args.ring c.args.w _ ∙ c.if-middle-spacing.false)

pub returns : goal.returns
returns c =
    found c.args.ring c.args.w c.loop-low.low c.loop-low.high c.loop-low.invariant (omega arith)
