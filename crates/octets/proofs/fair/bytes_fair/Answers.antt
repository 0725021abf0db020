-- `bytes_fair` meets its contract: the bytes left are fair exactly when all are, since each byte passed is. Assumes nothing.
use mathlib.Core.Path.{sym, ap, ◌∙◌}
use native.Mathlib.Omega.{arith}
use Rattle.plain.specs.Bytes.{fair}
use Rattle.octets.specs.Octets.{octets}
use Rattle.octets.proofs.Bytes.{length-octets}
use Rattle.octets.proofs.Tested.{tested-start, tested-next, tested-stop, tested-end}
use Rattle.octets.proofs.fair.bytes_fair.Goals as goal

pub loop-i-init : goal.loop-i-init
loop-i-init c = tested-start fair (octets c.args.ws.now) c.args.from c.args.n

pub returns-then-not-is_fair : goal.returns-then-not-is_fair
returns-then-not-is_fair c =
    let a = c.args in
    tested-stop fair (octets a.ws.now) a.from a.n c.loop-i.i (omega (arith, length-octets a.ws.now)) c.loop-i-test.true
    (ap fair (sym c.byte_at.ensures) ∙ sym c.is_fair.ensures ∙ c.if-not-is_fair.true) ∙ c.loop-i.invariant

pub loop-i-preserved : goal.loop-i-preserved
loop-i-preserved c =
    let a = c.args in
    tested-next fair (octets a.ws.now) a.from a.n c.loop-i.i (omega (arith, length-octets a.ws.now)) c.loop-i-test.true
    (ap fair (sym c.byte_at.ensures) ∙ sym c.is_fair.ensures ∙ c.if-not-is_fair.false) ∙ c.loop-i.invariant

pub returns : goal.returns
returns c =
    let a = c.args in
    tested-end fair (octets a.ws.now) a.from a.n c.loop-i.i (omega (arith, length-octets a.ws.now)) c.loop-i-test.false ∙ c.loop-i.invariant
