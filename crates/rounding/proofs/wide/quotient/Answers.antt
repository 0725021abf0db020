-- `quotient` meets its contract: twice 26 digits more are 2^52 times the number. Assumes nothing.
use Prim.Native.Nat.{◌*◌, ◌/◌, ◌^◌, ◌<◌}
use mathlib.Core.Path.{sym, ◌∙◌}
use native.Mathlib.Nat.{div-lt_iff_lt-mul, div-add-mod', mod-lt}
use native.Mathlib.Omega.{arith}
use Rattle.rounding.proofs.Sticky.{sticky-of}
use Rattle.rounding.proofs.wide.quotient.Goals as goal

first : (s : goal.Start) → s.args.w / s.args.d < 2 ^ 9
first c = (div-lt_iff_lt-mul {k = c.args.d} {x = c.args.w} {y = 2 ^ 9} (omega arith)).1 (omega arith)

pub further-requires : goal.further-requires
further-requires c = (omega (arith, first c), mod-lt c.args.w (omega arith), c.requires.0, c.requires.1)

pub further-last-requires : goal.further-last-requires
further-last-requires c = omega (arith, first c.before, c.further.ensures, c.requires)

pub mark-requires : goal.mark-requires
mark-requires c = omega (arith, first c.before.before, c.further.ensures, c.further-last.ensures)

pub returns : goal.returns
returns c =
    let a = c.args in
    let first = c.further.ensures in
    let last = c.further-last.ensures in
    c.mark.ensures ∙ sym (sticky-of (a.w * 2 ^ 52) a.d _ _ (omega (arith, last.worth, first.worth, div-add-mod' a.w a.d)) last.below)
