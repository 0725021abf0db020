-- `write_refusal` meets its contract: the number, a space and the position are written one after the other. Assumes nothing.
use Rattle.plain.specs.Bytes.{SPACE}
use Rattle.pen.specs.Pen.{phrase}
use Rattle.pen.proofs.Between.{writes-three}
use Rattle.listing.specs.Listing.{REFUSED, position}
use Rattle.listing.proofs.list.write_refusal.Goals as goal

pub returns : goal.returns
returns c =
    writes-three (phrase REFUSED c.args.number) SPACE (position c.args.line c.args.column) c.write_phrase-spaced.ensures c.write_byte-at.ensures c.write_position.ensures
