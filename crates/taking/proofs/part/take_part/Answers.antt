-- `take_part` meets its contract: the limit is passed already, is not passed, or is passed by this part. Assumes nothing.
use native.Mathlib.Omega.{arith}
use Rattle.taking.proofs.Taking.{takes_none, takes-over}
use Rattle.taking.proofs.part.take_part.Goals as goal

pub returns-then-b-gt-MOST : goal.returns-then-b-gt-MOST
returns-then-b-gt-MOST c = takes_none c.args.pool.now c.args.b c.args.part.now c.requires c.if-b-gt-MOST.true

pub returns : goal.returns
returns c =
    let t = c.take_all-full in
    takes-over c.args.pool.now c.args.b c.args.part.now c.if-b-gt-MOST.false
    (omega (arith, c.if-part-free.false)) _ t.result t.ensures
