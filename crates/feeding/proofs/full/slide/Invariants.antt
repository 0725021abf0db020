-- `slide` meets its contract: after i turns the first i bytes are in their places. Assumes nothing.
use mathlib.Core.Path.{◌≡◌}
use mathlib.Core.List.{◌++◌}
use lib.ListN.{take, drop}
use Rattle.feeding.proofs.full.slide.Given as goal

abbrev pub invariant-loop-i : goal.invariant-loop-i
invariant-loop-i l = take l.i l.place-items ≡ take l.i (drop l.gone (l.full ++ l.run))
