-- `word_fair` meets its contract: eight bytes are tested at once, and one by one where that does not settle it. Assumes nothing.
use mathlib.Core.Path.{sym, ap, ◌∙◌}
use Rattle.plain.specs.Bytes.{fair}
use Rattle.words.specs.Halves.{all}
use Rattle.octets.proofs.Across.{word-part}
use Rattle.octets.proofs.fair.word_fair.Goals as goal

pub returns-then-is_plain : goal.returns-then-is_plain
returns-then-is_plain c =
    c.if-is_plain.true ∙ sym (ap (all fair) (word-part c.args.ws.now c.args.k c.requires) ∙ c.is_plain.ensures c.if-is_plain.true)
