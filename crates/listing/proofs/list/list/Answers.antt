-- `list` meets its contract: a text that is accepted is shown, and one that is not is refused. Assumes nothing.
use native.Mathlib.Omega.{arith}
use Rattle.listing.proofs.Listed.{showing, lists-shown, room-refusal, lists-refused}
use Rattle.listing.proofs.list.list.Goals as goal

pub show-requires : goal.show-requires
show-requires c =
    showing _ _ _ _ _ _ c.no_memory-memory.ensures c.make_empty.ensures c.load-reply.ensures c.in-Ok.is _ (omega arith)

pub write_refusal-requires : goal.write_refusal-requires
write_refusal-requires c = room-refusal _ _ _ _ (omega arith)

pub returns-in-Ok : goal.returns-in-Ok
returns-in-Ok c =
    lists-shown _ _ _ _ _ _ c.no_memory-memory.ensures c.make_empty.ensures c.load-reply.ensures c.in-Ok.is _ _ _ c.show.ensures

pub returns-in-Err : goal.returns-in-Err
returns-in-Err c =
    lists-refused _ _ _ _ _ _ c.no_memory-memory.ensures c.make_empty.ensures c.load-reply.ensures _ c.in-Err.is _ c.number.ensures _ _ _ c.write_refusal.ensures
