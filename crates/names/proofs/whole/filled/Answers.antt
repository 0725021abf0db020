-- `filled` meets its contract: the word ends with as many zero bits as are shifted out, so each byte that goes is zero. Assumes nothing.
use native.Mathlib.Omega.{arith}
use Rattle.names.proofs.Filling.{raised-zeros}
use Rattle.names.proofs.whole.filled.Goals as goal

pub overflow_sub-result : goal.overflow_sub-result
overflow_sub-result c = (raised-zeros c.args.w (omega arith)).less

pub overflow_add-result : goal.overflow_add-result
overflow_add-result c = omega (arith, (raised-zeros c.args.w (omega arith)).fits)

pub returns : goal.returns
returns c = (raised-zeros c.args.w (omega arith)).same
