-- `write_front` meets its contract: five words stored one after the other are the five written over. Assumes nothing.
use mathlib.Core.Path.{◌≡◌, sym, ap, ◌∙◌}
use mathlib.Core.List.{List, [], ◌∷◌}
use Prim.Native.Nat.{ℕ}
use Rattle.words.specs.Over.{over}
use Rattle.words.proofs.Over.{over-append}
use Rattle.layout.proofs.front.write_front.Goals as goal

-- five words, each after the other
five : (x y z u v : ℕ) (m : List ℕ)
    → over 4 (v ∷ []) (over 3 (u ∷ []) (over 2 (z ∷ []) (over 1 (y ∷ []) (over 0 (x ∷ []) m)))) ≡ over 0 (x ∷ y ∷ z ∷ u ∷ v ∷ []) m
five x y z u v m =
    sym (over-append 0 (x ∷ []) (y ∷ z ∷ u ∷ v ∷ []) m ∙ over-append 1 (y ∷ []) (z ∷ u ∷ v ∷ []) (over 0 (x ∷ []) m)
    ∙ over-append 2 (z ∷ []) (u ∷ v ∷ []) (over 1 (y ∷ []) (over 0 (x ∷ []) m))
    ∙ over-append 3 (u ∷ []) (v ∷ []) (over 2 (z ∷ []) (over 1 (y ∷ []) (over 0 (x ∷ []) m))))

pub returns : goal.returns
returns c =
    let a = c.args in
    c.store-5.ensures
    ∙ ap (over 4 (0 ∷ [])) (c.store-4.ensures
    ∙ ap (over 3 (a.bytes ∷ [])) (c.store-3.ensures ∙ ap (over 2 (a.values ∷ [])) (c.store-2.ensures ∙ ap (over 1 (a.statements ∷ [])) c.store.ensures)))
    ∙ five a.texts a.statements a.values a.bytes 0 a.m.now
