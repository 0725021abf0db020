-- `set_byte` meets its contract: a word is stored that differs in the one byte. Assumes nothing.
use mathlib.Core.Path.{sym}
use native.Mathlib.Omega.{arith}
use mathlib.Core.List.{[], ◌∷◌}
use Rattle.words.proofs.Each.{words_of}
use Rattle.octets.proofs.Inked.{inked-set, inked-past}
use Rattle.octets.proofs.write.set_byte.Goals as goal

pub returns-then-k-ws : goal.returns-then-k-ws
returns-then-k-ws c =
    let a = c.args in
    inked-set a.ws.now a.i c.with_byte.result a.b (words_of a.ws.now (λ j. omega (arith, c.slice_known-then-k-ws-1.given j))) (omega arith) c.if-k-ws.true c.with_byte.ensures

pub returns-else-k-ws : goal.returns-else-k-ws
returns-else-k-ws c =
    let a = c.args in
    sym (inked-past a.i (a.b ∷ []) a.ws.now (words_of a.ws.now (λ j. omega (arith, c.slice_known-1.given j))) (omega arith))
