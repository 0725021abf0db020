-- `write_entry` meets its contract: a phrase is written, and a line end after it. Assumes nothing.
use mathlib.Core.List.{[], ◌∷◌, append_assoc}
use Rattle.plain.specs.Bytes.{LF, SPACE}
use Rattle.words.proofs.Placed.{writes-same, writes_then}
use Rattle.pen.specs.Figures.{decimal}
use Rattle.pen.specs.Pen.{phrase}
use Rattle.pen.proofs.write_entry.Goals as goal

pub returns : goal.returns
returns c =
    let word = c.args.word.now in
    let n = c.args.n in
    let line = writes_then (phrase word n) (LF ∷ []) c.write_phrase-end.ensures c.write_byte.ensures in
    writes-same (append_assoc word (SPACE ∷ decimal n) (LF ∷ [])) line
