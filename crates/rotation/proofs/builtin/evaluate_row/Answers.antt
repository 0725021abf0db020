-- `evaluate_row` meets its contract: Neptune's arrays are the printed lists, and the others' are empty. Assumes nothing.
use lib.Ieee.{of_bits, round, neg}
use borrow.Author.Tests.{ne_eqb}
use Rattle.plain.specs.Doubles.{printed}
use Rattle.rotation.specs.Builtin.{row_evaluated}
use Rattle.rotation.proofs.builtin.evaluate_row.Goals as goal

pub returns-then-code-eq899 : goal.returns-then-code-eq899
unfolding row_evaluated printed round neg of_bits
returns-then-code-eq899 c = rw c.if-code-eq899.true c.evaluate.ensures

pub returns : goal.returns
unfolding row_evaluated printed round neg of_bits
returns c = rw (ne_eqb _ _ c.if-code-eq899.false) c.evaluate-2.ensures
