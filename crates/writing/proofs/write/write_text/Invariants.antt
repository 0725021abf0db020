-- `write_text` meets its contract: what is left to write onto this page is what was to be written onto the first. Assumes nothing.
use Prim.Native.Nat.{◌+◌, ◌-◌}
use lib.ListN.{length}
use Rattle.text.specs.Text.{read_text, added}
use Rattle.page.specs.Writing.{page, written_on}
use Rattle.writing.proofs.Passes.{Passes}
use Rattle.writing.proofs.write.write_text.Given as goal

abbrev pub invariant-loop-at : goal.invariant-loop-at
invariant-loop-at l = Passes l.text (written_on (added (read_text l.text)) (page l.initial.m l.initial.last)) l.at l.m l.last l.reader

abbrev pub decreases-loop-at : goal.decreases-loop-at
decreases-loop-at l = length l.text + 1 - l.at
