-- `raise` meets its contract: the places are copied up by one, and the place is stored. Assumes nothing.
use mathlib.Core.Path.{ap, ◌∙◌}
use mathlib.Core.List.{List}
use Prim.Native.Nat.{ℕ}
use lib.ListN.{set}
use Rattle.order.proofs.Raising.{raised-copied}
use Rattle.order.proofs.raise.Goals as goal

pub returns : goal.returns
returns c =
    let a = c.args in
    ap (λ (l : List ℕ). set l a.at a.place) c.copy_within.ensures.after ∙ raised-copied a.at a.held a.place a.places.now c.requires.0 c.requires.1
