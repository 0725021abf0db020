-- `show_values` meets its contract: after k turns the lines of the first k variables' values are written. Assumes nothing.
use mathlib.Core.Path.{◌≡◌, sym, ap, subst, ◌∙◌}
use mathlib.Core.Bool.{true}
use mathlib.Core.List.{List, [], ◌∷◌, ◌++◌}
use Prim.Native.Nat.{ℕ, ◌+◌, ◌≤◌, ◌<◌}
use native.Mathlib.Omega.{arith}
use lib.ListN.{length, take, get_or}
use Rattle.words.specs.Placed.{Room, Writes}
use Rattle.words.proofs.Placed.{writes-same}
use Rattle.names.specs.Names.{unpacked}
use Rattle.layout.specs.State.{flat}
use Rattle.layout.specs.Memory.{name_words, decode}
use Rattle.layout.specs.Damage.{sound}
use Rattle.layout.proofs.Sound.{Sound, sound-of}
use Rattle.variables.specs.Variables.{variable}
use Rattle.order.specs.Places.{words_at}
use Rattle.order.proofs.Named.{length-names_at}
use Rattle.shown.specs.Shown.{values_of}
use Rattle.shown.specs.Shows.{listed, lines_of, lines, Valuing, Telling}
use Rattle.shown.proofs.Writing.{writes-none, writes-all, room_next, writes-next}
use Rattle.shown.proofs.Held.{first, place-named, within-listed, holding, name-listed}
use Rattle.shown.proofs.Together.{lines_none, lines-append}
use Rattle.shown.proofs.values.show_values.Goals as goal

-- the lines of all variables' values are those of each variable's, one after the other
lines-each : (m : List ℕ) (ns : List (List ℕ)) → lines_of m ns ≡ flat (lines m) ns
unfolding values_of flat
lines-each m [] = lines_none
lines-each m (n ∷ ns) = lines-append (variable n (decode m)) (values_of (decode m) ns) ∙ ap (λ (l : List ℕ). lines m n ++ l) (lines-each m ns)

module _ (m : List ℕ) (held : ℕ) (ps : List ℕ) (at : ℕ) (out : List ℕ) (G : Valuing m held ps at out) (u : sound m ≡ true) where
  abbrev ns : List (List ℕ)
  ns = listed m held ps

  S : Sound m
  S = sound-of m u

  -- a turn
  module _ (k : ℕ) (h : k < held) (end : ℕ) (now : List ℕ) (W : Writes at (flat (lines m) (take k ns)) out end now)
      (names words : List ℕ) (e : names ≡ name_words m) (w : words ≡ words_at names (get_or ps k 0)) where
    within : k < length ns
    within = within-listed m S held ps G.within k h

    name-is : get_or ns k (first m) ≡ unpacked words
    name-is = name-listed m S held ps G.within k h names words e w

    telling : Telling m words end now
    telling =
        record {
          named = holding m S held ps G.within k h names words e w;
          room =
              subst (λ (n : List ℕ). Room end (lines m n) now) name-is
              (room_next (lines m) ns k (first m) within W (subst (λ (l : List ℕ). Room at l out) (lines-each m ns) G.room));
        }

    one_more : {end' : ℕ} {now' : List ℕ} → Writes end (lines m (unpacked words)) now end' now' → Writes at (flat (lines m) (take (k + 1) ns)) out end' now'
    one_more {end'} {now'} v = writes-next (lines m) ns k (first m) within W (subst (λ (n : List ℕ). Writes end (lines m n) now end' now') (sym name-is) v)

  all_told : (k : ℕ) → held ≤ k → {end : ℕ} {now : List ℕ} → Writes at (flat (lines m) (take k ns)) out end now → Writes at (lines_of m ns) out end now
  all_told k h W = writes-same (sym (lines-each m ns)) (writes-all (lines m) ns k (omega (arith, length-names_at (name_words m) held ps G.within)) W)

pub loop-place-init : goal.loop-place-init
loop-place-init c =
    writes-none (lines c.args.pool.words.now) (listed c.args.pool.words.now (length c.args.places.now) c.args.places.now)

pub name_at-words-requires : goal.name_at-words-requires
name_at-words-requires c =
    place-named _ (sound-of _ c.args.pool.tested) _ _ c.requires.within c.loop-place.place-index c.loop-place-test.true _ c.names-names.ensures

pub show_variable-end-requires : goal.show_variable-end-requires
show_variable-end-requires c =
    telling _ _ _ _ _ c.requires c.args.pool.tested _ c.loop-place-test.true _ _ c.loop-place.invariant _ _ c.names-names.ensures c.name_at-words.ensures

pub loop-place-preserved : goal.loop-place-preserved
loop-place-preserved c =
    one_more _ _ _ _ _ c.requires c.args.pool.tested _ c.loop-place-test.true _ _ c.loop-place.invariant _ _ c.names-names.ensures c.name_at-words.ensures c.show_variable-end.ensures

pub returns : goal.returns
returns c =
    all_told _ _ _ _ _ c.requires c.args.pool.tested c.loop-place.place-index c.loop-place-test.false c.loop-place.invariant
