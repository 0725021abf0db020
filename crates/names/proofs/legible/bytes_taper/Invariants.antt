-- `bytes_taper` meets its contract: a name byte that is shifted out changes nothing of what is asked, and each turn has one less.
-- Assumes nothing.
use mathlib.Core.Path.{◌≡◌}
use Prim.Native.Nat.{◌<◌}
use lib.ListN.{length}
use Rattle.plain.specs.Runs.{run}
use Rattle.value.specs.Classes.{name_byte}
use Rattle.words.proofs.Each.{WORD}
use Rattle.octets.specs.Octets.{bytes_of}
use Rattle.names.proofs.Tapering.{ends}
use Rattle.names.proofs.legible.bytes_taper.Given as goal

abbrev pub invariant-loop-rest : goal.invariant-loop-rest
invariant-loop-rest l = (l.rest < WORD) × (ends (bytes_of l.rest) ≡ ends (bytes_of l.w))

abbrev pub decreases-loop-rest : goal.decreases-loop-rest
decreases-loop-rest l = length (run name_byte (bytes_of l.rest))
