-- `spread` meets its contract: what is left to write over the bytes is what was to be written over the first. Assumes nothing.
use mathlib.Core.Path.{◌≡◌}
use Prim.Native.Nat.{◌*◌}
use lib.ListN.{length, drop}
use Rattle.words.specs.Over.{over}
use Rattle.octets.specs.Octets.{octets}
use Rattle.order.proofs.in_words.spread.Given as goal

abbrev pub invariant-loop-i : goal.invariant-loop-i
invariant-loop-i l = (length l.room ≡ length l.initial.room) × (over (8 * l.i) (octets (drop l.i l.words)) l.room ≡ over 0 (octets l.words) l.initial.room)
