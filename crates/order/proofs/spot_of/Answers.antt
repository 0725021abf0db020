-- `spot_of` meets its contract: what is left of the names held has the spot that all have. Assumes nothing.
use mathlib.Core.Path.{◌≡◌, sym, ap, ap₂, ◌∙◌}
use mathlib.Core.Bool.{Bool}
use mathlib.Core.List.{List}
use Prim.Native.Nat.{ℕ, ◌+◌, ◌<◌}
use native.Mathlib.Omega.{arith}
use lib.ListN.{length, drop, get_or}
use mir.Val.{Fits}
use mir.Syntax.{w64}
use Rattle.plain.specs.Lists.{equal}
use Rattle.words.proofs.Each.{Words, words_of}
use Rattle.order.specs.Order.{before}
use Rattle.order.proofs.Before.{before-by, equal-by}
use Rattle.std.specs.Prelude.{Some, None}
use Rattle.std.specs.Ordering.{is_lt, is_eq, nat_cmp}
use Rattle.std.specs.Cmp.Lexicographic.{slice_cmp}
use Rattle.std.specs.declared.cmp.Ordering.{Ordering as Order}
use Rattle.std.specs.declared.cmp.Ordering.TheVariants.{Less, Equal, Greater}
use Rattle.order.specs.Places.{Spotting, name_count, words_at, name_at, names_at, later, spot}
use Rattle.order.proofs.Spots.{spot-first, spot-end, spot-here, spot-held, spot-next}
use Rattle.order.proofs.Named.{before_at, equal-at, length-names_at, name-held, place-held}
use Rattle.order.proofs.spot_of.Goals as goal

-- a turn: the words of the name and of the one held at the place are compared
module _ (ws : List ℕ) (place : ℕ) (ps : List ℕ) (I : Spotting ws place ps) (f : (i : ℕ) → Fits w64 (get_or ws i 0)) (at : ℕ) (h : at < length ps)
    (a b : List ℕ) (x : a ≡ words_at ws place) (y : b ≡ words_at ws (get_or ps at 0)) where
  abbrev name : List ℕ
  name = name_at ws place

  abbrev names : List (List ℕ)
  names = names_at ws (length ps) ps

  words : Words ws
  words = words_of ws (λ i. (f i).fits)

  placed : get_or ps at 0 < name_count ws
  placed = place-held ws (length ps) ps I.places at h

  -- names that compare as their words do compare as the words in hand
  in-hand : (R : List ℕ → List ℕ → Bool) → R name (name_at ws (get_or ps at 0)) ≡ R (words_at ws place) (words_at ws (get_or ps at 0))
      → R name (get_or names at (name_at ws 0)) ≡ R a b
  in-hand R e = ap (R name) (name-held ws (length ps) ps I.places at h) ∙ e ∙ sym (ap₂ R x y)

  before-held : before name (get_or names at (name_at ws 0)) ≡ before a b
  before-held = in-hand before (before_at ws words I.names place (get_or ps at 0) I.named placed)

  equal-held : equal name (get_or names at (name_at ws 0)) ≡ equal a b
  equal-held = in-hand equal (equal-at ws words I.names place (get_or ps at 0) I.named placed)

  within : at < length names
  within = omega (arith, length-names_at ws (length ps) ps I.places)

  -- what std's order of the words says
  module _ (o : Order) (e : o ≡ slice_cmp nat_cmp a b) (v : spot name names ≡ later at (spot name (drop at names))) where
    stops : o ≡ Less → Some at ≡ spot name names
    stops q = sym (v ∙ spot-here name names at (name_at ws 0) within (before-held ∙ before-by a b o e ∙ ap is_lt q))

    finds : o ≡ Equal → None ≡ spot name names
    finds q =
        sym (v ∙ spot-held name names at (name_at ws 0) within (before-held ∙ before-by a b o e ∙ ap is_lt q) (equal-held ∙ equal-by a b o e ∙ ap is_eq q))

    goes_on : o ≡ Greater → spot name names ≡ later (at + 1) (spot name (drop (at + 1) names))
    goes_on q =
        v ∙ spot-next name names at (name_at ws 0) within (before-held ∙ before-by a b o e ∙ ap is_lt q) (equal-held ∙ equal-by a b o e ∙ ap is_eq q)

pub loop-at-init : goal.loop-at-init
loop-at-init c = spot-first _ _

pub name_at-requires : goal.name_at-requires
name_at-requires c =
    place-held c.args.names.now _ c.args.held.now c.requires.places c.loop-at.at c.loop-at-test.true

pub returns-in-Less : goal.returns-in-Less
returns-in-Less c =
    stops _ _ _ c.requires c.type_inv.names _ c.loop-at-test.true _ _ c.name_at-name.ensures c.name_at.ensures _ c.cmp.ensures c.loop-at.invariant c.in-Less.is

pub returns-in-Equal : goal.returns-in-Equal
returns-in-Equal c =
    finds _ _ _ c.requires c.type_inv.names _ c.loop-at-test.true _ _ c.name_at-name.ensures c.name_at.ensures _ c.cmp.ensures c.loop-at.invariant c.in-Equal.is

pub loop-at-preserved : goal.loop-at-preserved
loop-at-preserved c =
    goes_on _ _ _ c.requires c.type_inv.names _ c.loop-at-test.true _ _ c.name_at-name.ensures c.name_at.ensures _ c.cmp.ensures c.loop-at.invariant c.in-Greater.is

pub returns : goal.returns
returns c =
    let l = c.loop-at in
    let n = length-names_at _ _ _ c.requires.places in
    let e : length c.args.held.now ≡ l.at = omega arith in
    ap Some e ∙ sym (l.invariant ∙ spot-end _ _ l.at (omega (arith, n)) (omega (arith, n)))
