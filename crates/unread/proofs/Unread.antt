-- All that is claimed of a text that a query does not read, of this library: each claim is proved in a file of its own. Assumes nothing.
use Rattle.promises.specs.Calls.{library}
use Rattle.unread.specs.All.{Unread}
use Rattle.unread.proofs.Calls.{independent, load-moves-nothing, parts-move-nothing, removal-moves-nothing, reload-moves-nothing, moving-moves-nothing, independent-after}
use Rattle.unread.proofs.After.{moves-nothing-after}
use Rattle.unread.proofs.Only.{no-other-counts}
use Rattle.unread.proofs.Matters.{counted}

pub unread : Unread library
unread = record {
  independent = independent;
  loads = load-moves-nothing;
  parts = parts-move-nothing;
  removals = removal-moves-nothing;
  reloads = reload-moves-nothing;
  moves = moving-moves-nothing;
  independent_after = independent-after;
  after = moves-nothing-after;
  no_other = no-other-counts;
  each = counted;
}
