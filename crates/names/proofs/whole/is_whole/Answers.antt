-- `is_whole` meets its contract: with no highest bit set no sum leaves its byte, and the marks leave name bytes only. Assumes nothing.
use mathlib.Core.Path.{sym}
use native.Mathlib.Omega.{arith}
use borrow.Author.Tests.{eqb-true}
use Rattle.plain.proofs.Tests.{true-false}
use Rattle.octets.proofs.Plain.{half-word}
use Rattle.names.proofs.Lanes.{whole}
use Rattle.names.proofs.whole.is_whole.Goals as goal

pub returns-then-w-ne0 : goal.returns-then-w-ne0
returns-then-w-ne0 c = λ e. true-false (sym e)

pub overflow_add-digit : goal.overflow_add-digit
overflow_add-digit c = omega (arith, half-word c.args.w (omega arith) c.if-w-ne0.false)

pub overflow_add-digit-2 : goal.overflow_add-digit-2
overflow_add-digit-2 c = omega (arith, half-word c.args.w (omega arith) c.if-w-ne0.false)

pub overflow_add-upper : goal.overflow_add-upper
overflow_add-upper c = omega (arith, half-word c.args.w (omega arith) c.if-w-ne0.false)

pub overflow_add-upper-2 : goal.overflow_add-upper-2
overflow_add-upper-2 c = omega (arith, half-word c.args.w (omega arith) c.if-w-ne0.false)

pub overflow_add-underscore : goal.overflow_add-underscore
overflow_add-underscore c = omega (arith, half-word c.args.w (omega arith) c.if-w-ne0.false)

pub overflow_add-underscore-2 : goal.overflow_add-underscore-2
overflow_add-underscore-2 c = omega (arith, half-word c.args.w (omega arith) c.if-w-ne0.false)

pub overflow_add-lower : goal.overflow_add-lower
overflow_add-lower c = omega (arith, half-word c.args.w (omega arith) c.if-w-ne0.false)

pub overflow_add-lower-2 : goal.overflow_add-lower-2
overflow_add-lower-2 c = omega (arith, half-word c.args.w (omega arith) c.if-w-ne0.false)

pub returns : goal.returns
returns c = λ e. whole c.args.w (omega arith) c.if-w-ne0.false (eqb-true _ _ e)
