-- `spell` meets its contract: before each turn the digits still to write, with those written, are all the digits. Assumes nothing.
use mathlib.Core.Path.{◌≡◌}
use mathlib.Core.List.{◌++◌}
use lib.ListN.{length, drop}
use Rattle.pen.specs.Digits.{digits}
use Rattle.pen.proofs.digits.spell.Given as goal

abbrev pub invariant-loop-i : goal.invariant-loop-i
invariant-loop-i l = digits l.i l.rest ++ drop l.i l.text ≡ digits (length l.initial.text) l.w
