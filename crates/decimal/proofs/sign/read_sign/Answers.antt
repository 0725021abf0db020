-- `read_sign` meets its contract: each way out is one clause of `minus` and `unsigned`. Assumes nothing.
use mathlib.Core.Path.{refl}
use lib.ListN.{drop_of_length-le}
use borrow.Author.Tests.{ne_eqb}
use Rattle.plain.specs.Bytes.{PLUS, MINUS}
use Rattle.plain.proofs.Runs.{drop-byte}
use Rattle.decimal.proofs.sign.read_sign.Goals as goal

pub returns-then-b-eq45 : goal.returns-then-b-eq45
returns-then-b-eq45 c =
    let a = c.args in
    let e = drop-byte a.value.now a.at MINUS c.if-at-value.true c.if-b-eq45.true in
    record { is-minus = rw e; rest = rw e }

pub returns-then-b-eq43 : goal.returns-then-b-eq43
returns-then-b-eq43 c =
    let a = c.args in
    let e = drop-byte a.value.now a.at PLUS c.if-at-value.true c.if-b-eq43.true in
    record { is-minus = rw e; rest = rw e }

pub returns-else-b-eq43 : goal.returns-else-b-eq43
returns-else-b-eq43 c =
    let a = c.args in
    let e = drop-byte a.value.now a.at _ c.if-at-value.true refl in
    let m = ne_eqb _ _ c.if-b-eq45.false in
    let p = ne_eqb _ _ c.if-b-eq43.false in
    record { is-minus = rw (e, m); rest = rw e (rw (p, m)) }

pub returns-else-at-value : goal.returns-else-at-value
returns-else-at-value c = let e = drop_of_length-le c.args.value.now c.if-at-value.false in record { is-minus = rw e; rest = rw e }
