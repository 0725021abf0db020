-- `blanks_gone` meets its contract: while a blank stands in front, the next byte of the run moves it out. Assumes nothing.
use native.Mathlib.Omega.{arith}
use mathlib.Core.Path.{sym, ap, ◌∙◌}
use Rattle.value.specs.Classes.{blank}
use Rattle.feeding.proofs.Storing.{slid-start, slid-next}
use Rattle.feeding.proofs.full.blanks_gone.Goals as goal

pub loop-gone-init : goal.loop-gone-init
loop-gone-init c = slid-start c.args.full.now c.args.run.now c.requires

pub loop-gone-preserved : goal.loop-gone-preserved
loop-gone-preserved c =
    let a = c.loop-gone in
    a.invariant ∙ slid-next c.args.full.now c.args.run.now c.requires a.gone (omega arith)
    (sym (ap blank c.byte_at.ensures) ∙ sym c.in_class.ensures ∙ c.if-not-in_class.false)
