-- `read_digits` meets its contract: what is left to write, after the number so far, is what was to be written. Assumes nothing.
use mathlib.Core.Path.{◌≡◌, refl, sym, ◌∙◌}
use mathlib.Core.Logic.{inl}
use native.Mathlib.Omega.{arith}
use Rattle.plain.specs.Bytes.{digit}
use Rattle.plain.proofs.Runs.{run-off, run_end}
use Rattle.decimal.proofs.Left.{left-more, left-none}
use Rattle.decimal.proofs.digits.read_digits.Goals as goal

pub loop-end-init : goal.loop-end-init
loop-end-init c = record { left = record { ends = refl; writes = inl refl }; beyond = λ h. refl }

pub returns-then-not-is_ascii_digit : goal.returns-then-not-is_ascii_digit
returns-then-not-is_ascii_digit c =
    left-none _ _ _ _ _ (run-off digit _ _ c.loop-end-test.true (sym c.is_ascii_digit.ensures.value ∙ c.if-not-is_ascii_digit.true)) c.loop-end.invariant.left

pub loop-end-preserved : goal.loop-end-preserved
loop-end-preserved c = record {
  left = left-more _ _ _ _ _ _ c.loop-end-test.true (sym c.is_ascii_digit.ensures.value ∙ c.if-not-is_ascii_digit.false) c.add_digit-number.ensures c.loop-end.invariant.left;
  beyond = λ h. omega arith;
}

pub returns : goal.returns
returns c =
    let e : c.loop-end.end ≡ c.max.result = grind (arith, c.max.ensures) in
    rw e at (left-none _ _ _ _ _ (run_end digit _ _ c.loop-end-test.false) c.loop-end.invariant.left)
