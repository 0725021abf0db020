-- `write_inside` meets its contract: a quote is written twice. Assumes nothing.
use mathlib.Core.Path.{sym}
use mathlib.Core.List.{[], ◌∷◌}
use Rattle.plain.specs.Bytes.{QUOTE}
use Rattle.words.proofs.Placed.{writes-same, writes_then}
use Rattle.pen.proofs.Doubled.{doubled-quote}
use Rattle.pen.proofs.quoted.write_inside.Goals as goal

pub returns : goal.returns
returns c =
    writes-same (sym (doubled-quote _ c.if-byte-ne-QUOTE.false)) (writes_then (QUOTE ∷ []) (QUOTE ∷ []) c.write_byte-second.ensures c.write_byte-2.ensures)
