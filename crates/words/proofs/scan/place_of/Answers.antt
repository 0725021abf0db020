-- `place_of` meets its contract: what is found is at the place of the number. Assumes nothing.
use mathlib.Core.Path.{ap, ◌∙◌}
use mathlib.Core.Bool.{cond}
use Prim.Native.Nat.{ℕ}
use Rattle.std.proofs.Common.{rules, tests, Some, None}
use Rattle.std.proofs.lemmas.Iterator.{YieldsList-from_slice}
use Rattle.std.proofs.lemmas.Iterator.Search.{position_from_yields_List}
use lib.Dec.{eqb, ltb}
use lib.ListN.{length}
use Rattle.words.specs.Halves.{upper}
use Rattle.words.proofs.Chains.{position-place}
use Rattle.words.proofs.scan.place_of.Goals as goal

pub returns : goal.returns
returns c =
    let a = c.args in
    position_from_yields_List (λ w. eqb (upper w) a.number) _ _ _ c.position.ensures.ran (YieldsList-from_slice a.ws.now cc) (λ x b q k. search (rules, tests))
    ∙ ap (λ (k : ℕ). cond (ltb k (length a.ws.now)) (Some k) None) (position-place a.number a.ws.now)
