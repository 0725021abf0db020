-- `put_last` meets its contract: from the end on, a blank is nothing, and the first other byte takes the last place. Assumes nothing.
use Prim.Native.Nat.{ℕ, ◌+◌, ◌-◌}
use native.Mathlib.Omega.{arith}
use mathlib.Core.Path.{◌≡◌, sym, ap, ◌∙◌}
use lib.ListN.{take}
use Rattle.feeding.specs.Kept.{keep_all}
use Rattle.feeding.proofs.Storing.{blank-last, byte_last}
use Rattle.feeding.proofs.full.put_last.Goals as goal

pub loop-i-preserved : goal.loop-i-preserved
loop-i-preserved c =
    let a = c.loop-i in
    let z : a.i ≡ a.i - 1 + 1 = omega arith in
    a.invariant ∙ ap (λ (n : ℕ). keep_all c.args.full (take n c.args.run.now)) z
    ∙ blank-last c.args.full c.args.run.now (a.i - 1) c.well_formed.0.1.0.1 (c.requires (omega arith)) (omega arith)
    (sym c.in_class.ensures ∙ c.if-not-in_class.false)

pub returns-then-not-in_class : goal.returns-then-not-in_class
returns-then-not-in_class c =
    let a = c.loop-i in
    let z : a.i ≡ a.i - 1 + 1 = omega arith in
    sym (a.invariant ∙ ap (λ (n : ℕ). keep_all c.args.full (take n c.args.run.now)) z
    ∙ byte_last c.args.full c.args.run.now (a.i - 1) c.well_formed.0.1.0.1 (c.requires (omega arith)) (omega arith)
    (sym c.in_class.ensures ∙ c.if-not-in_class.true))
