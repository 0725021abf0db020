-- `insert` meets its contract: at its spot the name is put among the others, unless it is one of them. Assumes nothing.
use mathlib.Core.Path.{◌≡◌, refl, sym, ap, subst, ◌∙◌}
use mathlib.Core.List.{List, map}
use native.Mathlib.Nat.{le_refl}
use lib.Dec.{ltb}
use lib.ListN.{length, take}
use lib.Seq.{take_all}
use Rattle.words.specs.Halves.{all}
use Prim.Native.Nat.{ℕ, ◌+◌, ◌≤◌}
use native.Mathlib.Omega.{arith}
use Rattle.words.proofs.Over.{length_over}
use Rattle.order.specs.Places.{Inserting, Inserts, Spotting, name_count, name_at, names_at, spot, raised}
use Rattle.std.specs.Prelude.{Option, Some, None}
use Rattle.order.proofs.Named.{length-names_at}
use Rattle.order.proofs.Spots.{inserted-here, inserted-held, spot-within}
use Rattle.order.proofs.Raising.{names-raised, places-raised}
use Rattle.order.proofs.insert.Goals as goal

module _ (ws : List ℕ) (held place : ℕ) (ps : List ℕ) (I : Inserting ws held place ps) where
  -- the places held are lent
  lent : take (length (take held ps)) (take held ps) ≡ take held ps
  lent = take_all _ _ (le_refl _)

  spotting : Spotting ws place (take held ps)
  spotting =
      record {
        names = I.names;
        places = record { few = le_refl _; within = ap (all (λ p. ltb p (name_count ws))) lent ∙ I.places.within };
        named = I.named;
      }

module _ (ws : List ℕ) (held place : ℕ) (ps : List ℕ) (I : Inserting ws held place ps) (r : Option ℕ)
    (f : r ≡ spot (name_at ws place) (names_at ws (length (take held ps)) (take held ps))) where
  e : r ≡ spot (name_at ws place) (names_at ws held ps)
  e = f ∙ ap (λ (l : List ℕ). spot (name_at ws place) (map (name_at ws) l)) (lent ws held place ps I)

  stays : r ≡ None → Inserts ws held place ps held ps
  stays q =
      record {
        places = I.places;
        few = omega arith;
        sized = refl;
        names = sym (inserted-held (name_at ws place) (names_at ws held ps) (sym e ∙ q));
      }

  module _ (at : ℕ) (q : r ≡ Some at) where
    within : at ≤ held
    within = omega (arith, spot-within (name_at ws place) (names_at ws held ps) at (sym e ∙ q), length-names_at ws held ps I.places)

    goes_in : (after : List ℕ) → after ≡ raised at held place ps → Inserts ws held place ps (held + 1) after
    goes_in after a =
        subst (λ (l : List ℕ). Inserts ws held place ps (held + 1) l) (sym a)
        (record {
          places = places-raised at held place ps within I.room ws I.named I.places;
          few = omega arith;
          sized = length_over at _ ps;
          names = names-raised at held place ps within I.room ws ∙ sym (inserted-here (name_at ws place) (names_at ws held ps) at (sym e ∙ q));
        })

pub spot_of-requires : goal.spot_of-requires
spot_of-requires c = spotting _ _ _ _ c.requires

pub returns-in_default : goal.returns-in_default
returns-in_default c =
    stays _ _ _ _ c.requires _ c.spot_of.ensures c.in_default.is

pub raise-requires : goal.raise-requires
raise-requires c =
    (within _ _ _ _ c.requires _ c.spot_of.ensures _ c.in-Some.is, c.requires.room)

pub returns : goal.returns
returns c =
    goes_in _ _ _ _ c.requires _ c.spot_of.ensures _ c.in-Some.is _ c.raise.ensures
