-- `store_items` meets its contract: what is left to store onto this page is what was to be stored onto the first. Assumes nothing.
use Prim.Native.Nat.{◌-◌}
use lib.ListN.{length}
use Rattle.page.specs.Writing.{page}
use Rattle.writing.proofs.Storing.{Storing}
use Rattle.writing.proofs.give.store_items.Given as goal

abbrev pub invariant-loop-given : goal.invariant-loop-given
invariant-loop-given l = Storing l.fn.kind l.line l.from (page l.initial.m l.initial.last) l.last l.kind l.i l.given l.bytes (length l.line - l.given) l.m
