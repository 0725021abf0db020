-- `spot_of` meets its contract: what is left of the names held has the spot that all have. Assumes nothing.
use mathlib.Core.Path.{◌≡◌}
use lib.ListN.{length, drop}
use Rattle.order.specs.Places.{name_at, names_at, later, spot}
use Rattle.order.proofs.spot_of.Given as goal

abbrev pub invariant-loop-at : goal.invariant-loop-at
invariant-loop-at l =
    spot (name_at l.names l.place) (names_at l.names (length l.held) l.held)
    ≡ later l.at (spot (name_at l.names l.place) (drop l.at (names_at l.names (length l.held) l.held)))
