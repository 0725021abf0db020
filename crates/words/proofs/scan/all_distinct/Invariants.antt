-- `all_distinct` meets its contract: what is left is distinct exactly when all is, since each word passed stands only once.
-- Assumes nothing.
use mathlib.Core.Path.{◌≡◌}
use lib.ListN.{drop}
use Rattle.words.specs.Halves.{distinct}
use Rattle.words.proofs.scan.all_distinct.Given as goal

abbrev pub invariant-loop-i : goal.invariant-loop-i
invariant-loop-i l = distinct (drop l.i l.ws) ≡ distinct l.ws
