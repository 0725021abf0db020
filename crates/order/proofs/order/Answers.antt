-- `order` meets its contract: before each turn the names from place i on are in order. Assumes nothing.
use mathlib.Core.Path.{◌≡◌, refl, sym, ap, ◌∙◌}
use mathlib.Core.List.{List}
use Prim.Native.Nat.{ℕ, ◌+◌, ◌-◌, ◌≤◌, ◌<◌}
use native.Mathlib.Omega.{arith}
use lib.ListN.{length, drop}
use Rattle.words.specs.Halves.{all}
use Rattle.order.specs.Order.{inserted}
use Rattle.order.specs.Places.{Legible, Inserting, Inserts, name_count, name_at, cut_names, ordered}
use Rattle.order.proofs.Named.{ordered-next, ordered_end}
use Rattle.order.proofs.order.Invariants.{Sorted}
use Rattle.order.proofs.order.Goals as goal

none-sorted : (ws ps : List ℕ) → Sorted ws 0 (name_count ws) ps
unfolding all
none-sorted ws ps = record { places = record { few = omega arith; within = refl }; few = omega arith; names = ordered_end ws (name_count ws) refl }

module _ (ws : List ℕ) (held i : ℕ) (ps : List ℕ) (some : 0 < i) (S : Sorted ws held i ps) where
  inserting : Legible ws → name_count ws ≤ length ps → Inserting ws held (i - 1) ps
  inserting l k = record { names = l; places = S.places; named = omega (arith, S.few); room = omega (arith, S.few) }

  one_more : (r : ℕ) (after : List ℕ) → Inserts ws held (i - 1) ps r after → Sorted ws r (i - 1) after
  one_more r after n =
      let e : i ≡ i - 1 + 1 = omega arith in
      record {
        places = n.places;
        few = omega (arith, S.few, n.few);
        names =
            n.names
            ∙ ap (inserted (name_at ws (i - 1))) (S.names ∙ ap (λ (j : ℕ). ordered (drop j (cut_names (name_count ws) ws))) e)
            ∙ sym (ordered-next ws (i - 1) (omega (arith, S.few)));
      }

pub loop-place-init : goal.loop-place-init
loop-place-init c = (none-sorted _ _, refl)

pub insert-held-requires : goal.insert-held-requires
insert-held-requires c =
    inserting _ _ _ _ (omega arith) c.loop-place.invariant.0 c.requires.names (omega (arith, c.requires.room, c.loop-place.invariant.1))

pub loop-place-preserved : goal.loop-place-preserved
loop-place-preserved c =
    (one_more _ _ _ _ (omega arith) c.loop-place.invariant.0 _ _ c.insert-held.ensures, c.insert-held.ensures.sized ∙ c.loop-place.invariant.1)

pub shape_of-places : goal.shape_of-places
shape_of-places c = c.loop-place.invariant.1

pub returns : goal.returns
returns c =
    let l = c.loop-place in
    let e : l.place ≡ 0 = omega arith in
    let ws = c.args.names.now in
    record {
      places = l.invariant.0.places;
      few = omega (arith, l.invariant.0.few);
      sized = l.invariant.1;
      names = l.invariant.0.names ∙ ap (λ (j : ℕ). ordered (drop j (cut_names (name_count ws) ws))) e;
    }
