-- `read_operator` meets its contract: each way out is one case of `head_operated`. Assumes nothing.
use Prim.Native.Nat.{◌+◌}
use native.Mathlib.Omega.{arith}
use mathlib.Core.Path.{sym, ap}
use Rattle.std.specs.Prelude.{Err}
use Rattle.plain.specs.Bytes.{PLUS, EQUALS}
use Rattle.value.proofs.Standing.{stands-within}
use Rattle.statement.proofs.head.read_operator.Goals as goal
use Rattle.statement.proofs.head.read_operator.Goals.{then-stands-2+else-stands-3, else-stands-2}

pub overflow_add-at : goal.overflow_add-at
overflow_add-at c =
    let a = c.args in
    omega (arith, stands-within EQUALS a.line.now a.at _ (omega arith) c.stands.ensures c.if-stands.true)

pub returns-then-stands : goal.returns-then-stands
returns-then-stands c = simp (sym c.stands.ensures, c.if-stands.true, c.past.ensures)

pub overflow_add-at-then-stands-2 : goal.overflow_add-at-then-stands-2
overflow_add-at-then-stands-2 c =
    let a = c.args in
    omega (arith, stands-within PLUS a.line.now a.at _ (omega arith) c.stands-2.ensures c.if-stands-2.true)

pub overflow_add-at-then-stands-3 : goal.overflow_add-at-then-stands-3
overflow_add-at-then-stands-3 c =
    let a = c.args in
    omega (arith, stands-within EQUALS a.line.now (a.at + 1) _ (omega arith) c.stands-then-stands-2.ensures c.if-stands-3.true)

pub returns-then-stands-3 : goal.returns-then-stands-3
returns-then-stands-3 c =
    simp (sym c.stands.ensures, c.if-stands.false, sym c.stands-2.ensures, c.if-stands-2.true, sym c.stands-then-stands-2.ensures, c.if-stands-3.true, c.past-then-stands-3.ensures)

pub returns : goal.returns
returns c =
    let e = c.at.ensures in
    simp (sym c.stands.ensures, c.if-stands.false)
    (elim c.if-stands-2.branch [
      | then-stands-2+else-stands-3 w ↦ simp (sym c.stands-2.ensures, w.if-stands-2.true, sym w.stands-then-stands-2.ensures, w.if-stands-3.false) (ap Err e)
      | else-stands-2 w ↦ simp (sym c.stands-2.ensures, w.if-stands-2.false) (ap Err e)
    ])
