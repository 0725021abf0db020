-- `line_words` meets its contract: after i turns the words hold the first i bytes. Assumes nothing.
use native.Mathlib.Omega.{arith}
use mathlib.Core.Path.{refl, ap, ◌∙◌}
use mathlib.Core.List.{[], ◌∷◌}
use lib.ListN.{get_or}
use Rattle.octets.specs.Octets.{packed, inked}
use Rattle.octets.proofs.Bytes.{bytes-from}
use Rattle.bookmark.proofs.Lined.{packed-on}
use Rattle.bookmark.proofs.write.line_words.Goals as goal

pub loop-i-init : goal.loop-i-init
unfolding packed
loop-i-init c = refl

pub loop-i-preserved : goal.loop-i-preserved
loop-i-preserved c =
    let bs = c.args.line.now in
    let i = c.loop-i.i in
    c.set_byte.ensures ∙ ap (inked i (get_or bs i 0 ∷ [])) c.loop-i.invariant
    ∙ packed-on bs (bytes-from bs (λ k. omega (arith, c.type_inv.line k))) i (omega arith) (omega arith)
