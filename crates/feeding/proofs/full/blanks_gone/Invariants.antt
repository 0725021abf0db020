-- `blanks_gone` meets its contract: while a blank stands in front, the next byte of the run moves it out. Assumes nothing.
use mathlib.Core.Path.{◌≡◌}
use lib.ListN.{drop}
use Rattle.feeding.specs.Kept.{keep_all}
use Rattle.feeding.specs.Slid.{slid}
use Rattle.feeding.proofs.full.blanks_gone.Given as goal

abbrev pub invariant-loop-gone : goal.invariant-loop-gone
invariant-loop-gone l = keep_all l.full l.run ≡ keep_all (slid l.full l.run l.gone) (drop l.gone l.run)
