-- `take_all` meets its contract: the bytes up to the first LF are held; without an LF that is all, and else the lines after it follow.
-- Assumes nothing.
use native.Mathlib.Omega.{arith}
use mathlib.Core.Path.{sym}
use lib.Seq.{length-take-le}
use Rattle.taking.proofs.Lines.{first-within, unbroken-run}
use Rattle.taking.proofs.Taking.{takes-lines}
use Rattle.taking.proofs.part.take_all.Goals as goal

pub slice_bounds-hold-end : goal.slice_bounds-hold-end
slice_bounds-hold-end c =
    let p = c.past-end in
    let part = c.args.part.now in
    sym (length-take-le p.result part (first-within part p.result p.ensures))

pub hold-held-requires : goal.hold-held-requires
hold-held-requires c =
    let p = c.past-end in
    let part = c.args.part.now in
    let l = length-take-le p.result part (first-within part p.result p.ensures) in
    (omega (arith, c.requires.1, first-within part p.result p.ensures), unbroken-run part p.result p.ensures)

pub returns-then-end-part : goal.returns-then-end-part
returns-then-end-part c =
    let h = c.hold-held in
    let p = c.past-end in
    let g = c.end_line-ended in
    let t = c.take_on in
    takes-lines c.args.pool.now c.args.b c.args.part.now p.result h.result h.ensures p.ensures
    c.if-end-part.true _ g.result g.ensures _ t.result t.ensures
