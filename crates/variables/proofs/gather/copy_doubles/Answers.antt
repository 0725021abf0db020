-- `copy_doubles` meets its contract: one double more is written each turn, and bits of a size below 2^200 are no NaN's. Assumes nothing.
use Prim.Native.Nat.{ℕ, ◌+◌}
use mathlib.Core.Path.{◌≡◌, refl, sym, ap, ◌∙◌}
use mathlib.Core.Bool.{true, not}
use mathlib.Core.List.{List, map}
use native.Mathlib.Omega.{arith}
use borrow.Author.Rules.{rules}
use lib.Dec.{T}
use lib.Ieee.{Float, of_bits, binary64, nan_bits}
use lib.ListN.{get_or, set, length-set}
use lib.Seq.{take_all}
use Rattle.words.specs.Over.{over}
use Rattle.plain.proofs.Each.{each_at}
use Rattle.words.proofs.Each.{all-each}
use Rattle.words.proofs.Over.{over-nil, over-turn-map}
use Rattle.layout.specs.Damage.{small}
use Rattle.layout.proofs.Small.{small-number}
use Rattle.variables.proofs.gather.copy_doubles.Goals as goal

pub loop-j-init : goal.loop-j-init
loop-j-init c = (search rules, sym (over-nil _ _), refl)

no_nan : (w : ℕ) → small w ≡ true → T (not (nan_bits binary64 w))
no_nan w e = rw (small-number w e) tt

pub float_from_bits-out : goal.float_from_bits-out
float_from_bits-out c =
    let a = c.args in
    no_nan _ (each_at (λ w. small w ≡ true) a.bits.now c.loop-j.j 0 c.loop-j-test.true (all-each small a.bits.now c.requires.all_small))

pub loop-j-preserved : goal.loop-j-preserved
loop-j-preserved c =
    let a = c.args in (
      omega arith,
      ap (λ (x : List Float). set x (a.at + c.loop-j.j) (of_bits binary64 (get_or a.bits.now c.loop-j.j 0))) c.loop-j.invariant.1
          ∙ over-turn-map (of_bits binary64) a.at a.bits.now a.out.now c.loop-j.j 0 c.loop-j-test.true,
      simp length-set c.loop-j.invariant.2,
    )

pub returns : goal.returns
returns c =
    let a = c.args in
    c.loop-j.invariant.1 ∙ ap (λ (ws : List ℕ). over a.at (map (of_bits binary64) ws) a.out.now) (take_all c.loop-j.j a.bits.now c.loop-j-test.false)
