-- `line_words` meets its contract: after i turns the words hold the first i bytes. Assumes nothing.
use mathlib.Core.Path.{◌≡◌}
use lib.ListN.{take}
use Rattle.octets.specs.Octets.{packed}
use Rattle.bookmark.specs.Limits.{LINEWORDS}
use Rattle.bookmark.proofs.write.line_words.Given as goal

abbrev pub invariant-loop-i : goal.invariant-loop-i
invariant-loop-i l = l.ws ≡ packed LINEWORDS (take l.i l.line)
