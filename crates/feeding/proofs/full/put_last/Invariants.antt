-- `put_last` meets its contract: from the end on, a blank is nothing, and the first other byte takes the last place. Assumes nothing.
use mathlib.Core.Path.{◌≡◌}
use lib.ListN.{take}
use Rattle.feeding.specs.Kept.{keep_all}
use Rattle.feeding.proofs.full.put_last.Given as goal

abbrev pub invariant-loop-i : goal.invariant-loop-i
invariant-loop-i l = keep_all l.full l.run ≡ keep_all l.full (take l.i l.run)
