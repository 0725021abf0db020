-- `read_number` meets its contract: the run is what `number_at` reads, and its length leads to its end. Assumes nothing.
use native.Mathlib.Omega.{arith}
use Prim.Native.Nat.{◌-◌, ◌^◌}
use mathlib.Core.Path.{◌≡◌, sym, ap}
use lib.ListN.{length, drop}
use Rattle.std.specs.Prelude.{Err}
use Rattle.plain.specs.Runs.{run, past}
use Rattle.plain.proofs.Places.{past-most}
use Rattle.value.specs.Classes.{value_byte}
use Rattle.value.specs.Value.{number_at}
use Rattle.value.proofs.read_number.Goals as goal

pub overflow_add-result : goal.overflow_add-result
unfolding past
overflow_add-result c =
    let a = c.args in
    let n : length c.run-bytes.result.now ≡ length (run value_byte (drop a.at a.line.now)) = ap length c.run-bytes.ensures in
    omega (arith, past-most value_byte a.line.now a.at (2 ^ 64 - 1) (omega arith) (omega arith))

pub returns-in-Number : goal.returns-in-Number
unfolding number_at past
returns-in-Number c = simp (sym c.run-bytes.ensures, sym c.read.ensures, c.in-Number.is)

pub returns-in-BadForm : goal.returns-in-BadForm
unfolding number_at past
returns-in-BadForm c = simp (sym c.run-bytes.ensures, sym c.read.ensures, c.in-BadForm.is) (ap Err c.at.ensures)

pub returns-in-OutsideClass : goal.returns-in-OutsideClass
unfolding number_at past
returns-in-OutsideClass c = simp (sym c.run-bytes.ensures, sym c.read.ensures, c.in-OutsideClass.is) (ap Err c.at-in-OutsideClass.ensures)
