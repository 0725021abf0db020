-- All that is claimed of a text that a query does not read. Of any build. Definitions only.
use Rattle.promises.specs.Calls.{Build}
use Rattle.unread.specs.Unread.{Independent, LoadMovesNothing, PartsMoveNothing, RemovalMovesNothing, ReloadMovesNothing, MovingMovesNothing, IndependentAfter, NoOtherCounts, AllCount}
use Rattle.unread.specs.After.{MovesNothingAfter}

pub record Unread (b : Build) : Type 0 where
  pub independent : Independent b
  pub loads : LoadMovesNothing b
  pub parts : PartsMoveNothing b
  pub removals : RemovalMovesNothing b
  pub reloads : ReloadMovesNothing b
  pub moves : MovingMovesNothing b
  pub independent_after : IndependentAfter b
  pub after : MovesNothingAfter b
  pub no_other : NoOtherCounts b
  pub each : AllCount b
