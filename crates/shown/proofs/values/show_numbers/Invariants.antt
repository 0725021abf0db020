-- `show_numbers` meets its contract: after i turns the lines of the first i numbers are written. Assumes nothing.
use mathlib.Core.List.{map}
use lib.ListN.{take}
use Rattle.words.specs.Placed.{Writes}
use Rattle.layout.specs.State.{flat}
use Rattle.variables.specs.Variables.{number}
use Rattle.shown.specs.Shown.{value_line}
use Rattle.shown.proofs.values.show_numbers.Given as goal

abbrev pub invariant-loop-word : goal.invariant-loop-word
invariant-loop-word l = Writes l.at (flat value_line (take l.word-index (map number l.words))) l.initial.out l.end l.out
