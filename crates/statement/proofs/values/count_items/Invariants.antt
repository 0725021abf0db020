-- `count_items` meets its contract: the values counted so far and the items left to count make all. Assumes nothing.
use Prim.Native.Nat.{◌-◌, ◌≤◌}
use mathlib.Core.Path.{◌≡◌}
use lib.ListN.{length}
use Rattle.statement.specs.Values.{items_up_to, items, tally}
use Rattle.statement.proofs.Items.{with_items}
use Rattle.statement.proofs.values.count_items.Given as goal

abbrev pub invariant-loop-given : goal.invariant-loop-given
invariant-loop-given l = record {
  within : l.bytes ≤ l.i;
  all : with_items l.given l.bytes (items_up_to (length l.line - l.given) l.line l.kind l.i) ≡ tally (items l.fn.kind l.line l.at);
}
