-- `write_string` meets its contract: the bytes written so far and those left in the line are all of the string. Assumes nothing.
use lib.ListN.{drop}
use Rattle.value.specs.Strings.{undoubled}
use Rattle.page.proofs.Copying.{Copying}
use Rattle.page.proofs.store.write_string.Given as goal

abbrev pub invariant-loop-j : goal.invariant-loop-j
invariant-loop-j l = Copying l.line (undoubled (drop l.from l.line)) l.at l.initial.m l.k l.j l.m
