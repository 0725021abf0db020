-- `in_reach` meets its contract: the range asks the two tests of `in_reach`. Assumes nothing.
use mathlib.Core.Path.{◌≡◌, refl, ◌∙◌}
use mathlib.Core.Bool.{Bool, true, false, cond, ◌||◌}
use lib.Ieee.{Float, lt, le, eq, of_bits, round, neg}
use Rattle.std.specs.Prelude.{Some, None}
use Rattle.std.specs.Ordering.{float_partial_cmp, partial_le, is_some_and, is_le}
use Rattle.std.specs.declared.cmp.Ordering.TheVariants.{Less, Equal, Greater}
use Rattle.plain.specs.Doubles.{printed}
use Rattle.rotation.specs.Epochs.{in_reach}
use Rattle.rotation.proofs.epoch.in_reach.Goals as goal

same-test : (x y : Float) → partial_le float_partial_cmp x y ≡ le x y
unfolding le
same-test x y = by (lt x y) (eq x y) (lt y x)
  where
    by : (less same more : Bool) → is_some_and is_le (cond less (Some Less) (cond same (Some Equal) (cond more (Some Greater) None))) ≡ (less || same)
    by true same more = refl
    by false true more = refl
    by false false true = refl
    by false false false = refl

pub returns : goal.returns
unfolding in_reach printed round neg of_bits
returns c = c.contains.ensures.value ∙ rw (c.new.ensures.start, c.new.ensures.end, c.new.ensures.exhausted) (simp same-test)
