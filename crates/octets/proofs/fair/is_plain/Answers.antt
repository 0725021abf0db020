-- `is_plain` meets its contract: the three tests leave bytes from 32 to 126 only. Assumes nothing.
use native.Mathlib.Omega.{arith}
use borrow.Author.Tests.{eqb-true, ne_eqb}
use mathlib.Core.Path.{sym, ◌∙◌}
use Rattle.plain.proofs.Tests.{true-false}
use Rattle.octets.proofs.Plain.{half-word, plain_word}
use Rattle.octets.proofs.fair.is_plain.Goals as goal
use Rattle.octets.proofs.fair.is_plain.Goals.{then-w-eq0, else-w-eq0}

pub overflow_add-w : goal.overflow_add-w
overflow_add-w c = omega (arith, half-word c.args.w (omega arith) c.if-w-eq0.true)

pub overflow_add-result : goal.overflow_add-result
overflow_add-result c =
    elim c.if-w-eq0.branch [
      | then-w-eq0 w ↦ omega (arith, half-word c.args.w (omega arith) w.if-w-eq0.true)
      | else-w-eq0 w ↦ true-false (sym c.if-w-eq0-2.true ∙ w.value-is ∙ ne_eqb _ _ w.if-w-eq0.false)
    ]

pub returns-then-w-eq0-2 : goal.returns-then-w-eq0-2
returns-then-w-eq0-2 c =
    elim c.if-w-eq0.branch [
      | then-w-eq0 w ↦ λ e. plain_word c.args.w (omega arith) w.if-w-eq0.true (eqb-true _ _ (sym w.value-is ∙ c.if-w-eq0-2.true)) (eqb-true _ _ e)
      | else-w-eq0 w ↦ true-false (sym c.if-w-eq0-2.true ∙ w.value-is ∙ ne_eqb _ _ w.if-w-eq0.false)
    ]
