-- `show_values` meets its contract: after k turns the lines of the first k variables' values are written. Assumes nothing.
use lib.ListN.{length, take}
use Rattle.words.specs.Placed.{Writes}
use Rattle.layout.specs.State.{flat}
use Rattle.shown.specs.Shows.{listed, lines}
use Rattle.shown.proofs.values.show_values.Given as goal

abbrev pub invariant-loop-place : goal.invariant-loop-place
invariant-loop-place l = Writes l.at (flat (lines l.fn.pool.words.now) (take l.place-index (listed l.fn.pool.words.now (length l.places) l.places))) l.initial.out l.end l.out
