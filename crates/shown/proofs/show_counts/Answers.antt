-- `show_counts` meets its contract: after k turns the lines of the first k variables are written and their values counted. Assumes nothing.
use mathlib.Core.Path.{◌≡◌, refl, sym, ap, ap₂, subst, ◌∙◌}
use mathlib.Core.Bool.{true}
use mathlib.Core.List.{List}
use Prim.Native.Nat.{ℕ, ◌+◌, ◌≤◌, ◌<◌}
use native.Mathlib.Omega.{arith}
use lib.ListN.{length, take, get_or, length-append}
use lib.Seq.{take_all}
use Rattle.words.specs.Placed.{Room, Writes}
use Rattle.names.specs.Names.{unpacked}
use Rattle.layout.specs.State.{flat}
use Rattle.layout.specs.Memory.{name_words}
use Rattle.layout.specs.Damage.{sound}
use Rattle.layout.proofs.Sound.{Sound, sound-of}
use Rattle.variables.specs.Variables.{Datum}
use Rattle.order.specs.Places.{words_at}
use Rattle.order.proofs.Named.{length-names_at}
use Rattle.shown.specs.Shown.{counts, values_of}
use Rattle.shown.specs.Shows.{line, size, listed, Adding, Adds, Counting, Counts}
use Rattle.shown.specs.declared.Ends.{Ends}
use Rattle.shown.proofs.Writing.{writes-none, writes-all, room_next, writes-next, flat-next, flat-within}
use Rattle.shown.proofs.Held.{first, place-named, within-listed, holding, name-listed}
use Rattle.shown.proofs.show_counts.Invariants.{valued, Listed}
use Rattle.shown.proofs.show_counts.Goals as goal

none-listed : (m : List ℕ) (ns : List (List ℕ)) (at : ℕ) (out : List ℕ) → Listed m ns at out 0 (record { at = at; total = 0 }) out
unfolding flat
none-listed m ns at out = record { lines = writes-none (line m) ns; total = refl }

module _ (m : List ℕ) (held : ℕ) (ps : List ℕ) (at : ℕ) (out : List ℕ) (C : Counting m held ps at out) (u : sound m ≡ true) where
  abbrev ns : List (List ℕ)
  ns = listed m held ps

  S : Sound m
  S = sound-of m u

  -- a turn
  module _ (k : ℕ) (h : k < held) (ends : Ends) (out' : List ℕ) (L : Listed m ns at out k ends out')
      (names words : List ℕ) (e : names ≡ name_words m) (w : words ≡ words_at names (get_or ps k 0)) where
    within : k < length ns
    within = within-listed m S held ps C.within k h

    name-is : get_or ns k (first m) ≡ unpacked words
    name-is = name-listed m S held ps C.within k h names words e w

    adding : Adding m words ends out'
    unfolding counts values_of
    adding =
        record {
          named = holding m S held ps C.within k h names words e w;
          room = subst (λ (n : List ℕ). Room ends.at (line m n) out') name-is (room_next (line m) ns k (first m) within L.lines C.room);
          few = omega (arith, L.total, ap (size m) name-is, flat-within (valued m) ns k (first m) within, C.few);
        }

    one_more : (ends' : Ends) (out'' : List ℕ) → Adds m (unpacked words) ends out' ends' out'' → Listed m ns at out (k + 1) ends' out''
    one_more ends' out'' A =
        let a : List Datum = flat (valued m) (take k ns) in
        let b : List Datum = valued m (get_or ns k (first m)) in
        record {
          lines = writes-next (line m) ns k (first m) within L.lines (subst (λ (n : List ℕ). Writes ends.at (line m n) out' ends'.at out'') (sym name-is) A.lines);
          total =
              A.total
              ∙ ap₂ (λ (x y : ℕ). x + y) L.total (sym (ap (size m) name-is))
              ∙ sym (ap length (flat-next (valued m) ns k (first m) within) ∙ length-append a b);
        }

  all_listed : (k : ℕ) → held ≤ k → (ends : Ends) (out' : List ℕ) → Listed m ns at out k ends out' → Counts m ns at out ends out'
  unfolding counts values_of
  all_listed k h ends out' L =
      let l : length ns ≤ k = omega (arith, length-names_at (name_words m) held ps C.within) in
      record {
        lines = writes-all (line m) ns k l L.lines;
        total = L.total ∙ ap (λ (l : List (List ℕ)). length (flat (valued m) l)) (take_all k ns l);
      }

pub loop-place-init : goal.loop-place-init
loop-place-init c = none-listed _ _ _ _

pub name_at-words-requires : goal.name_at-words-requires
name_at-words-requires c =
    place-named _ (sound-of _ c.args.pool.tested) _ _ c.requires.within c.loop-place.place-index c.loop-place-test.true _ c.names-names.ensures

pub show_count-ends-requires : goal.show_count-ends-requires
show_count-ends-requires c =
    adding _ _ _ _ _ c.requires c.args.pool.tested _ c.loop-place-test.true _ _ c.loop-place.invariant _ _ c.names-names.ensures c.name_at-words.ensures

pub loop-place-preserved : goal.loop-place-preserved
loop-place-preserved c =
    one_more _ _ _ _ _ c.requires c.args.pool.tested _ c.loop-place-test.true _ _ c.loop-place.invariant _ _ c.names-names.ensures c.name_at-words.ensures _ _ c.show_count-ends.ensures

pub returns : goal.returns
returns c =
    all_listed _ _ _ _ _ c.requires c.args.pool.tested c.loop-place.place-index c.loop-place-test.false _ _ c.loop-place.invariant
