-- `write_phrase` meets its contract: the word, a space and the number are written one after the other. Assumes nothing.
use Rattle.plain.specs.Bytes.{SPACE}
use Rattle.pen.specs.Figures.{decimal}
use Rattle.pen.proofs.Between.{writes-three}
use Rattle.pen.proofs.write_phrase.Goals as goal

pub returns : goal.returns
returns c =
    writes-three c.args.word.now SPACE (decimal c.args.n) c.append-spaced.ensures c.write_byte-number.ensures c.write_decimal.ensures
