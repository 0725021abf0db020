-- `shift_bytes` meets its contract: after some turns the first j bytes are moved, and the next ones to read stand where they stood. Assumes nothing.
use mathlib.Core.Path.{◌≡◌}
use Prim.Native.Nat.{◌-◌, ◌≤◌}
use lib.ListN.{length}
use Rattle.words.specs.Over.{part}
use Rattle.octets.specs.Octets.{octets, inked}
use Rattle.octets.proofs.write.shift_bytes.Given as goal

abbrev pub invariant-loop-j : goal.invariant-loop-j
invariant-loop-j l = (l.j ≤ l.n) × (l.ws ≡ inked l.to (part l.from l.j (octets l.initial.ws)) l.initial.ws) × (length l.ws ≡ length l.initial.ws)

abbrev pub decreases-loop-j : goal.decreases-loop-j
decreases-loop-j l = l.n - l.j
