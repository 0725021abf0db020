-- `all_taper` meets its contract: after a word of name bytes only, what is asked of the rest is what is asked of all.
-- Assumes nothing.
use mathlib.Core.Path.{◌≡◌}
use lib.ListN.{drop}
use Rattle.octets.specs.Octets.{octets}
use Rattle.names.proofs.Tapering.{ends}
use Rattle.names.proofs.legible.all_taper.Given as goal

abbrev pub invariant-loop-i : goal.invariant-loop-i
invariant-loop-i l = ends (octets (drop l.i l.ws)) ≡ ends (octets l.ws)
