-- `all_fit` meets its contract: the statements left fit exactly when all do, since each one passed does; the heads left count values
-- that are left. Assumes nothing.
use mathlib.Core.Path.{◌≡◌}
use Prim.Native.Nat.{◌+◌, ◌≤◌}
use lib.ListN.{length, drop}
use Rattle.words.specs.Halves.{sum}
use Rattle.layout.specs.Damage.{all_fit}
use Rattle.layout.proofs.check.all_fit.Given as goal

abbrev pub invariant-loop-head : goal.invariant-loop-head
invariant-loop-head l = (l.at + sum (drop l.head-index l.heads) ≤ length l.values) × (all_fit (drop l.head-index l.heads) (drop l.at l.values) ≡ all_fit l.heads l.values)
