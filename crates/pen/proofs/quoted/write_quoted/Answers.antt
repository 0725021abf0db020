-- `write_quoted` meets its contract: a quote, the bytes, a quote and a line end are written one after the other. Assumes nothing.
use mathlib.Core.List.{List, [], ◌∷◌, ◌++◌}
use Prim.Native.Nat.{ℕ}
use Rattle.plain.specs.Bytes.{LF, QUOTE}
use Rattle.value.specs.Strings.{doubled}
use Rattle.words.specs.Over.{part}
use Rattle.words.proofs.Placed.{writes_then}
use Rattle.octets.specs.Octets.{octets}
use Rattle.pen.proofs.quoted.write_quoted.Goals as goal

pub returns : goal.returns
returns c =
    let quote : List ℕ = QUOTE ∷ [] in
    let inner = doubled (part c.args.from c.args.n (octets c.args.words.now)) in
    let closed = writes_then inner quote c.write_doubled-close.ensures c.write_byte-end.ensures in
    let line = writes_then (inner ++ quote) (LF ∷ []) closed c.write_byte.ensures in
    writes_then quote ((inner ++ quote) ++ (LF ∷ [])) c.write_byte-inside.ensures line
