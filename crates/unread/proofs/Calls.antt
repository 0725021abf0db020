-- What is not read moves nothing: a call on an undamaged pool leaves an undamaged one, and the texts that contain such statements stay as they were.
-- Assumes nothing.
use Prim.Native.Nat.{ℕ}
use mathlib.Core.Path.{◌≡◌, refl, sym, ap, ◌∙◌}
use mathlib.Core.Bool.{Bool, true, false}
use mathlib.Core.List.{List, [], ◌∷◌, ◌++◌, map, append_assoc, append-nil}
use lib.Dec.{eqb}
use Rattle.std.specs.Prelude.{if◌then◌else◌}
use Rattle.words.specs.Halves.{all}
use Rattle.layout.specs.State.{Text, Pool}
use Rattle.layout.specs.Limits.{room}
use Rattle.layout.specs.Memory.{decode, opens}
use Rattle.layout.specs.Damage.{sound}
use Rattle.pool.specs.Replies.{done}
use Rattle.pool.specs.Held.{held}
use Rattle.loading.specs.Load.{text_of, with, load_answer}
use Rattle.pool.specs.Remove.{without, remove_answer}
use Rattle.feeding.specs.Parts.{opening, joined}
use Rattle.opening.specs.Storing.{start}
use Rattle.opening.specs.Closing.{loaded_answer}
use Rattle.intake.specs.Calls.{are_bytes}
use Rattle.promises.specs.Calls as C
use Rattle.promises.specs.Calls.{Call, asked, leaves, library, typed}
use Rattle.promises.specs.Histories.{in_parts, coming, after, fed_under, texts}
use Rattle.promises.proofs.Said.{ajar, State, closed, state_of, wanting_none, open_answer, says}
use Rattle.promises.proofs.Held.{Is, shut-of, unchanged, still-shut, room-decoded}
use Rattle.promises.proofs.Steps.{step, leaves-is, no-damage}
use Rattle.promises.proofs.Sequences.{steps, steps-opened, typed-parts, asked_is, is-step, is-after}
use Rattle.promises.proofs.Parts.{held_then, closing-steps}
use Rattle.promises.proofs.Bringing.{after-append}
use Rattle.promises.proofs.Histories.{answered}
use Rattle.reads.specs.Names.{Name, Query, orientation_of, radii_of, names}
use Rattle.unread.specs.Unread.{call, contains, containing, contains_under, Alike, Independent, LoadMovesNothing, PartsMoveNothing, RemovalMovesNothing, ReloadMovesNothing, MovingMovesNothing, IndependentAfter}
use Rattle.unread.proofs.Chosen.{same_chosen, same_answer}

-- states whose texts are alike
alike-says : (q : Query) (s s' : State) → Alike q s.texts s'.texts → says (call q) s ≡ says (call q) s'
alike-says q s s' e = same_answer q s s' (same_chosen (names q) s.texts s'.texts e)

pub independent : Independent library
independent q m m' u u' e =
    asked_is (call q) m (state_of m) (unchanged m u) ∙ alike-says q (state_of m) (state_of m') e ∙ sym (asked_is (call q) m' (state_of m') (unchanged m' u'))

-- ---- the held texts that contain such statements, as texts come and go

module _ (ns : List Name) where
  containing-append : (s s' : Pool) → containing ns (s ++ s') ≡ containing ns s ++ containing ns s'
  unfolding containing
  containing-append [] s' = refl
  containing-append (t ∷ s) s' = by (contains ns t) (containing-append s s')
    where
      by : (b : Bool) → containing ns (s ++ s') ≡ containing ns s ++ containing ns s'
          → (if b then t ∷ containing ns (s ++ s') else containing ns (s ++ s')) ≡ (if b then t ∷ containing ns s else containing ns s) ++ containing ns s'
      by true g = ap (λ (l : Pool). t ∷ l) g
      by false g = g

  -- a text that contains none may stand anywhere, or nowhere
  containing-between : (front back : Pool) (t : Text) → contains ns t ≡ false → containing ns (front ++ (t ∷ back)) ≡ containing ns (front ++ back)
  unfolding containing
  containing-between front back t e =
      containing-append front (t ∷ back) ∙ ap (λ (l : Pool). containing ns front ++ l) none ∙ sym (containing-append front back)
    where
      none : containing ns (t ∷ back) ≡ containing ns back
      none = rw e

  containing-with : (s : Pool) (t : Text) → contains ns t ≡ false → containing ns (with s t) ≡ containing ns s
  containing-with s t e = containing-between s [] t e ∙ ap (containing ns) (append-nil s)

  containing-without : (label : ℕ) (s : Pool) → contains_under ns label s ≡ false → containing ns (without label s) ≡ containing ns s
  unfolding containing contains_under without
  containing-without label [] e = refl
  containing-without label (t ∷ s) e = by (eqb t.label label) (contains ns t) refl e (containing-without label s)
    where
      by : (b c : Bool) → contains ns t ≡ c → (if b then contains ns t else contains_under ns label s) ≡ false
          → (contains_under ns label s ≡ false → containing ns (without label s) ≡ containing ns s)
          → containing ns (if b then s else (t ∷ without label s)) ≡ (if contains ns t then t ∷ containing ns s else containing ns s)
      by true c f h g = rw h
      by false true f h g = rw f (ap (λ (l : Pool). t ∷ l) (g h))
      by false false f h g = rw f (g h)

-- ---- one call

-- a memory in a state whose texts are alike
by_state : (q : Query) (m m' : List ℕ) (s : State) → sound m ≡ true → Is m' s → Alike q s.texts (decode m) → asked (call q) m' ≡ asked (call q) m
by_state q m m' s u i e = asked_is (call q) m' s i ∙ alike-says q s (state_of m) e ∙ sym (asked_is (call q) m (state_of m) (unchanged m u))

by-step : (q : Query) (m : List ℕ) (c : Call) → sound m ≡ true → typed c ≡ true → Alike q (step c (state_of m)).texts (decode m)
    → asked (call q) (leaves c m) ≡ asked (call q) m
by-step q m c u t e = by_state q m (leaves c m) (step c (state_of m)) u (leaves-is m u c t) e

-- done or not
either : (q : Query) (b : Bool) (s s' : State) (texts : Pool) → Alike q s.texts texts → Alike q s'.texts texts
    → Alike q (if b then s else s').texts texts
either q true s s' texts e f = e
either q false s s' texts e f = f

pub load-moves-nothing : LoadMovesNothing library
unfolding step
load-moves-nothing q m u label bytes e =
    let s = with (decode m) (text_of label bytes) in
    by-step q m (C.load label bytes) u refl
    (either q (done (wanting_none (state_of m).opened (load_answer label bytes (decode m)))) (closed s) (state_of m) (decode m)
    (containing-with (names q) (decode m) (text_of label bytes) e) refl)

pub removal-moves-nothing : RemovalMovesNothing library
unfolding step
removal-moves-nothing q m u label e =
    by-step q m (C.remove label) u refl
    (either q (done (wanting_none (state_of m).opened (remove_answer label (decode m)))) (closed (without label (decode m))) (state_of m) (decode m)
    (containing-without (names q) label (decode m) e) refl)

-- ---- a text in parts

-- neither opening nor feeding touches the texts
fed-texts : (parts : List (List ℕ)) (s : State) → (steps (map C.feed_part parts) s).texts ≡ s.texts
unfolding steps step
fed-texts [] s = refl
fed-texts (p ∷ ps) s = fed-texts ps (step (C.feed_part p) s)

open-texts : (label : ℕ) (s : State) → (step (C.open_load label) s).texts ≡ s.texts
unfolding step
open-texts label s =
    by (done (wanting_none s.opened (open_answer label s.texts))) (record { texts = s.texts; opened = ajar label (opening start) }) refl
  where
    by : (b : Bool) (s' : State) → s'.texts ≡ s.texts → (if b then s' else s).texts ≡ s.texts
    by true s' e = e
    by false s' e = refl

between-texts : (label : ℕ) (parts : List (List ℕ)) (s : State) → (steps (C.open_load label ∷ map C.feed_part parts) s).texts ≡ s.texts
unfolding steps
between-texts label parts s = fed-texts parts (step (C.open_load label) s) ∙ open-texts label s

-- where none is open, a refused opening leaves nothing to feed or to close
shut-fed : (parts : List (List ℕ)) (s : Pool) → steps (map C.feed_part parts) (closed s) ≡ closed s
unfolding steps step
shut-fed [] s = refl
shut-fed (p ∷ ps) s = shut-fed ps s

refused-opening : (label : ℕ) (s : Pool) → held label s ≡ true → step (C.open_load label) (closed s) ≡ closed s
unfolding step
refused-opening label s h = rw h

refused-coming : (label : ℕ) (parts : List (List ℕ)) (s : Pool) → held label s ≡ true
    → step C.close_load (steps (C.open_load label ∷ map C.feed_part parts) (closed s)) ≡ closed s
unfolding steps step
refused-coming label parts s h =
    ap (λ (x : State). step C.close_load (steps (map C.feed_part parts) x)) (refused-opening label s h) ∙ ap (step C.close_load) (shut-fed parts s)

came-texts : (label : ℕ) (parts : List (List ℕ)) (s : Pool) → held label s ≡ false → room s ≡ true
    → step C.close_load (steps (C.open_load label ∷ map C.feed_part parts) (closed s)) ≡ closed (held_then s label parts)
came-texts label parts s f r = ap (step C.close_load) (steps-opened s label f parts) ∙ closing-steps s label parts r

module _ (q : Query) (m : List ℕ) (u : sound m ≡ true) (label : ℕ) (parts : List (List ℕ)) (t : are_bytes (joined parts) ≡ true) where
  fed-is : (s : State) → Is m s → Is (fed_under library label parts m) (steps (C.open_load label ∷ map C.feed_part parts) s)
  unfolding all
  fed-is s i = is-after (C.open_load label ∷ map C.feed_part parts) m s (typed-parts parts t) i

  between-moves-nothing : asked (call q) (fed_under library label parts m) ≡ asked (call q) m
  between-moves-nothing =
      by_state q m (fed_under library label parts m) _ u (fed-is (state_of m) (unchanged m u)) (ap (containing (names q)) (between-texts label parts (state_of m)))

  came-is : opens m ≡ false
      → Is (leaves C.close_load (fed_under library label parts m)) (step C.close_load (steps (C.open_load label ∷ map C.feed_part parts) (closed (decode m))))
  came-is o = is-step C.close_load (fed_under library label parts m) _ refl (fed-is (closed (decode m)) (still-shut m u o))

  module _ (e : contains (names q) (text_of label (joined parts)) ≡ false) where
    held-then : containing (names q) (held_then (decode m) label parts) ≡ containing (names q) (decode m)
    held-then = by (done (loaded_answer label (joined parts) (decode m)))
      where
        by : (b : Bool) → containing (names q) (if b then with (decode m) (text_of label (joined parts)) else decode m) ≡ containing (names q) (decode m)
        by true = containing-with (names q) (decode m) (text_of label (joined parts)) e
        by false = refl

    came-alike : Alike q (step C.close_load (steps (C.open_load label ∷ map C.feed_part parts) (closed (decode m)))).texts (decode m)
    came-alike = by (held label (decode m)) refl
      where
        by : (b : Bool) → held label (decode m) ≡ b
            → Alike q (step C.close_load (steps (C.open_load label ∷ map C.feed_part parts) (closed (decode m)))).texts (decode m)
        by true h = ap (λ (s : State). containing (names q) s.texts) (refused-coming label parts (decode m) h)
        by false h = ap (λ (s : State). containing (names q) s.texts) (came-texts label parts (decode m) h (room-decoded m u)) ∙ held-then

    came-moves-nothing : opens m ≡ false → asked (call q) (after library (coming label (in_parts parts)) m) ≡ asked (call q) m
    unfolding after
    came-moves-nothing o =
        ap (asked (call q)) (after-append library (C.open_load label ∷ map C.feed_part parts) (C.close_load ∷ []) m)
        ∙ by_state q m (leaves C.close_load (fed_under library label parts m)) _ u (came-is o) came-alike

pub parts-move-nothing : PartsMoveNothing library
unfolding step
parts-move-nothing = record {
  whole = λ q m u o label parts t e. came-moves-nothing q m u label parts t e o;
  between = λ q m u label parts t. between-moves-nothing q m u label parts t;
  dropped = λ q m u. by-step q m C.drop_load u refl refl;
}

-- ---- taken out and brought again

shut-removed : (label : ℕ) (m : List ℕ) → sound m ≡ true → opens m ≡ false → opens (leaves (C.remove label) m) ≡ false
unfolding step
shut-removed label m u o =
    by (done (remove_answer label (decode m))) (is-step (C.remove label) m (closed (decode m)) refl (still-shut m u o)).state
  where
    by : (b : Bool) → state_of (leaves (C.remove label) m) ≡ (if b then closed (without label (decode m)) else closed (decode m))
        → opens (leaves (C.remove label) m) ≡ false
    by true e = shut-of (leaves (C.remove label) m) (without label (decode m)) e
    by false e = shut-of (leaves (C.remove label) m) (decode m) e

pub reload-moves-nothing : ReloadMovesNothing library
reload-moves-nothing = record {
  loaded = λ q m u label bytes e f.
      load-moves-nothing q (leaves (C.remove label) m) (no-damage (C.remove label) m u) label bytes f ∙ removal-moves-nothing q m u label e;
  fed = λ q m u label parts e t o f.
      came-moves-nothing q (leaves (C.remove label) m) (no-damage (C.remove label) m u) label parts t f (shut-removed label m u o)
      ∙ removal-moves-nothing q m u label e;
}

-- ---- two pools

-- one text from a place to another
pub moved-alike : (q : Query) (front middle back : Pool) (t : Text) → contains (names q) t ≡ false
    → Alike q (front ++ (t ∷ (middle ++ back))) (front ++ (middle ++ (t ∷ back)))
moved-alike q front middle back t e =
    let ns = names q in
    let a = containing-between ns front (middle ++ back) t e in
    let b = containing-between ns (front ++ middle) back t e in
    a ∙ sym (ap (containing ns) (sym (append_assoc front middle (t ∷ back))) ∙ b ∙ ap (containing ns) (append_assoc front middle back))

pub moving-moves-nothing : MovingMovesNothing library
moving-moves-nothing q m m' u u' front middle back t e d d' =
    independent q m m' u u' (ap (containing (names q)) d ∙ moved-alike q front middle back t e ∙ sym (ap (containing (names q)) d'))

is-query : (q : Query) → C.query (call q) ≡ true
is-query (orientation_of source code epoch) = refl
is-query (radii_of source code) = refl

pub independent-after : IndependentAfter library
independent-after q m m' f f' history history' t t' e =
    answered m f history (call q) t (is-query q)
    ∙ alike-says q (closed (texts library history m)) (closed (texts library history' m')) e
    ∙ sym (answered m' f' history' (call q) t' (is-query q))
