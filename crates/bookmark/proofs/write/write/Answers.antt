-- `write` meets its contract: the words of numbers are written, and those of the line behind them. Assumes nothing.
use mathlib.Core.Path.{ap, ◌∙◌}
use Rattle.octets.specs.Octets.{packed}
use Rattle.bookmark.specs.Limits.{LINEWORDS}
use Rattle.bookmark.proofs.Bookmarked.{words-written}
use Rattle.bookmark.proofs.write.write.Goals as goal

pub returns : goal.returns
returns c =
    words-written c.args.at c.args.b c.args.m.now _ _ _ _ c.number_words-numbers.ensures
    (c.line_words-line.ensures ∙ ap (packed LINEWORDS) c.line.ensures) c.put.ensures c.put-2.ensures
