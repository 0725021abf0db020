-- `row_of` meets its contract: each arm is the row that `row_of` picks by the arm's code. Assumes nothing.
use mathlib.Core.Path.{ap}
use Rattle.std.specs.Prelude.{Some}
use lib.Ieee.{of_bits, round, neg}
use borrow.Author.Rules.{rules}
use borrow.Author.Tests.{ne_eqb}
use Rattle.plain.specs.Doubles.{printed}
use Rattle.rotation.specs.Table.{row_of}
use Rattle.rotation.proofs.Arms.{arm}
use Rattle.rotation.proofs.table.row_of.Goals as goal

-- no arm
pub returns-in_default : goal.returns-in_default
unfolding row_of
returns-in_default c =
    let n = c.args.code in
    simp (
      ne_eqb n 10 (search rules),
      ne_eqb n 199 (search rules),
      ne_eqb n 299 (search rules),
      ne_eqb n 399 (search rules),
      ne_eqb n 499 (search rules),
      ne_eqb n 599 (search rules),
      ne_eqb n 699 (search rules),
      ne_eqb n 799 (search rules),
      ne_eqb n 899 (search rules),
      ne_eqb n 999 (search rules),
    )

pub returns-in-10 : goal.returns-in-10
unfolding row_of printed round neg of_bits
returns-in-10 c = arm row_of (ap Some c.row.ensures) c.in-10.is

pub returns-in-199 : goal.returns-in-199
unfolding row_of printed round neg of_bits
returns-in-199 c = arm row_of (ap Some c.row-in-199.ensures) c.in-199.is

pub returns-in-299 : goal.returns-in-299
unfolding row_of printed round neg of_bits
returns-in-299 c = arm row_of (ap Some c.row-in-299.ensures) c.in-299.is

pub returns-in-399 : goal.returns-in-399
unfolding row_of printed round neg of_bits
returns-in-399 c = arm row_of (ap Some c.row-in-399.ensures) c.in-399.is

pub returns-in-499 : goal.returns-in-499
unfolding row_of printed round neg of_bits
returns-in-499 c = arm row_of (ap Some c.row-in-499.ensures) c.in-499.is

pub returns-in-599 : goal.returns-in-599
unfolding row_of printed round neg of_bits
returns-in-599 c = arm row_of (ap Some c.row-in-599.ensures) c.in-599.is

pub returns-in-699 : goal.returns-in-699
unfolding row_of printed round neg of_bits
returns-in-699 c = arm row_of (ap Some c.row-in-699.ensures) c.in-699.is

pub returns-in-799 : goal.returns-in-799
unfolding row_of printed round neg of_bits
returns-in-799 c = arm row_of (ap Some c.row-in-799.ensures) c.in-799.is

pub returns-in-899 : goal.returns-in-899
unfolding row_of printed round neg of_bits
returns-in-899 c = arm row_of (ap Some c.row-in-899.ensures) c.in-899.is

pub returns-in-999 : goal.returns-in-999
unfolding row_of printed round neg of_bits
returns-in-999 c = arm row_of (ap Some c.row-in-999.ensures) c.in-999.is
