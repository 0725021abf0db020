-- `write_position` meets its contract: the line, a space and the column are written one after the other. Assumes nothing.
use Rattle.plain.specs.Bytes.{SPACE}
use Rattle.pen.specs.Pen.{phrase, entry}
use Rattle.pen.proofs.Between.{writes-three}
use Rattle.listing.specs.Listing.{LINE, COLUMN}
use Rattle.listing.proofs.list.write_position.Goals as goal

pub returns : goal.returns
returns c =
    writes-three (phrase LINE c.args.line) SPACE (entry COLUMN c.args.column) c.write_phrase-spaced.ensures c.write_byte-next.ensures c.write_entry.ensures
