-- `take_lines` meets its contract: after each turn one whole line more is fed, and where no LF is left, only bytes of one line are.
-- Assumes nothing.
use Prim.Native.Nat.{◌-◌}
use mathlib.Core.Path.{◌≡◌}
use lib.ListN.{length}
use Rattle.plain.specs.Runs.{past}
use Rattle.value.specs.Classes.{line_byte}
use Rattle.taking.specs.Taking.{Reaches}
use Rattle.taking.proofs.part.take_lines.Given as goal

abbrev pub invariant-loop-end : goal.invariant-loop-end
invariant-loop-end l =
    Reaches l.initial.pool l.initial.reached.entered l.number l.long l.part l.pool l.reached × (length l.pool ≡ length l.initial.pool)
    × (l.end ≡ past line_byte l.part l.reached.at)

abbrev pub decreases-loop-end : goal.decreases-loop-end
decreases-loop-end l = length l.part - l.reached.at
