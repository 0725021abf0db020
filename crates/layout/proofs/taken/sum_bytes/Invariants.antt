-- `sum_bytes` meets its contract: what is summed and what is left to sum are the whole sum, which fits a word; the heads left count
-- values that are left. Assumes nothing.
use mathlib.Core.Path.{◌≡◌}
use Prim.Native.Nat.{◌+◌, ◌≤◌}
use lib.ListN.{length, drop}
use Rattle.words.specs.Halves.{sum}
use Rattle.layout.specs.Damage.{total_bytes}
use Rattle.layout.proofs.taken.sum_bytes.Given as goal

abbrev pub invariant-loop-head : goal.invariant-loop-head
invariant-loop-head l = (l.at + sum (drop l.head-index l.heads) ≤ length l.values)
    × (l.total + total_bytes (drop l.head-index l.heads) (drop l.at l.values) ≡ total_bytes l.heads l.values)
