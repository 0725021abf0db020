-- `write_line` meets its contract: the digits are written, and a line end after them. Assumes nothing.
use mathlib.Core.List.{[], ◌∷◌}
use Rattle.plain.specs.Bytes.{LF}
use Rattle.words.proofs.Placed.{writes_then}
use Rattle.pen.specs.Figures.{bits}
use Rattle.pen.proofs.write_line.Goals as goal

pub returns : goal.returns
returns c =
    writes_then (bits c.args.w) (LF ∷ []) c.write_bits-end.ensures c.write_byte.ensures
