-- `copy_bytes` meets its contract: after j turns the first j bytes are copied. Assumes nothing.
use mathlib.Core.Path.{◌≡◌}
use lib.ListN.{length}
use Rattle.words.specs.Over.{over, part}
use Rattle.octets.specs.Octets.{octets}
use Rattle.octets.proofs.read.copy_bytes.Given as goal

abbrev pub invariant-loop-j : goal.invariant-loop-j
invariant-loop-j l = (l.out ≡ over 0 (part l.from l.j (octets l.ws)) l.initial.out) × (length l.out ≡ length l.initial.out)
