-- Cut anywhere, a closing is one load of the joined bytes: the memory after the parts is in the state to which they bring the open text, and of that
-- state crate `opening` says what a closing answers and holds. Assumes nothing.
use Prim.Native.Nat.{ℕ, ◌≤◌}
use native.Mathlib.Omega.{arith}
use mathlib.Core.Path.{◌≡◌, refl, sym, ap, ◌∙◌, subst}
use mathlib.Core.Bool.{Bool, true, false}
use mathlib.Core.List.{List, [], ◌∷◌, map}
use mathlib.Core.Logic.{◌↔◌}
use borrow.Author.Tests.{le-ltb}
use lib.ListN.{length}
use Rattle.std.specs.Prelude.{if◌then◌else◌, Ok}
use Rattle.plain.proofs.Tests.{true-false}
use Rattle.refusal.specs.declared.Refusal.TheVariants.{LabelHeld, NotHeld, DamagedPool, TextOpen}
use Rattle.words.specs.Halves.{all}
use Rattle.layout.specs.State.{Pool}
use Rattle.layout.specs.Limits.{room, LONGEST_LOAD}
use Rattle.layout.specs.Memory.{decode, opens}
use Rattle.layout.specs.Damage.{sound}
use Rattle.pool.specs.Replies.{Reply, done, refusing}
use Rattle.pool.specs.Held.{held}
use Rattle.loading.specs.Load.{text_of, with, load_answer}
use Rattle.feeding.specs.Parts.{MOST, joined}
use Rattle.opening.specs.Closing.{loaded_answer}
use Rattle.opening.proofs.Closing.{cut-in-pool}
use Rattle.intake.specs.Calls.{are_bytes, open_reply, close_reply}
use Rattle.keeping.proofs.Joined.{unfed, parts_join}
use Rattle.promises.specs.Calls as C
use Rattle.promises.specs.Calls.{asked, leaves, library, accepted}
use Rattle.promises.specs.Demands.{Admissible}
use Rattle.promises.specs.Histories.{after, fed_under}
use Rattle.promises.specs.Parts.{CutAnywhere}
use Rattle.promises.proofs.Refusals.{accepted-done, refusal-changes-nothing}
use Rattle.promises.proofs.Accepted.{taken-measured, measured-taken, taken-admissible, admissible-taken}
use Rattle.promises.proofs.Said.{State, closed, says, query-says}
use Rattle.promises.proofs.Held.{Is, still-shut, room-decoded}
use Rattle.promises.proofs.Steps.{step}
use Rattle.promises.proofs.Sequences.{fed_to, steps-opened, typed-parts, asked_is, is-step, is-after}

-- ---- on states

-- the texts held after the closing
abbrev pub held_then : Pool → (label : ℕ) (parts : List (List ℕ)) → Pool
held_then s label parts = if done (loaded_answer label (joined parts) s) then with s (text_of label (joined parts)) else s

module _ (s : Pool) (label : ℕ) (parts : List (List ℕ)) (r : room s ≡ true) where
  pub closing-says : says C.close_load (fed_to s label parts) ≡ C.replied (loaded_answer label (joined parts) s)
  unfolding says
  closing-says = ap C.replied (cut-in-pool.closes s label parts r).answer

  pub closing-steps : step C.close_load (fed_to s label parts) ≡ closed (held_then s label parts)
  unfolding step
  closing-steps = ap closed (cut-in-pool.closes s label parts r).pool

-- within the limit of a load
loaded-as : (label : ℕ) (bytes : List ℕ) (s : Pool) → held label s ≡ false → length bytes ≤ LONGEST_LOAD → loaded_answer label bytes s ≡ load_answer label bytes s
unfolding load_answer
loaded-as label bytes s f h = rw (f, le-ltb LONGEST_LOAD (length bytes) h, le-ltb MOST (length bytes) (omega arith))

-- ---- on memories

-- the opening was accepted
pub record Openable (label : ℕ) (m : List ℕ) : Type 0 where
  pub undamaged : sound m ≡ true
  pub none_open : opens m ≡ false
  pub free : held label (decode m) ≡ false

pub openable : (label : ℕ) (m : List ℕ) → accepted (asked (C.open_load label) m) ≡ true → Openable label m
unfolding asked open_reply
openable label m h = by-damage (sound m) refl (sym (accepted-done (open_reply label m)) ∙ h)
  where
    by-label : (b : Bool) → held label (decode m) ≡ b → sound m ≡ true → opens m ≡ false → done (if b then refusing LabelHeld else Ok tt) ≡ true → Openable label m
    by-label true f e o h = true-false (sym h)
    by-label false f e o h = record { undamaged = e; none_open = o; free = f }

    by-open : (b : Bool) → opens m ≡ b → sound m ≡ true
        → done (if b then refusing TextOpen else (if held label (decode m) then refusing LabelHeld else Ok tt)) ≡ true → Openable label m
    by-open true o e h = true-false (sym h)
    by-open false o e h = by-label (held label (decode m)) refl e o h

    by-damage : (b : Bool) → sound m ≡ b
        → done (if b then (if opens m then refusing TextOpen else (if held label (decode m) then refusing LabelHeld else Ok tt)) else refusing DamagedPool) ≡ true
        → Openable label m
    by-damage true e h = by-open (opens m) refl e h
    by-damage false e h = true-false (sym h)

-- none is open: nothing is fed, and there is nothing to close
module _ (m : List ℕ) (o : opens m ≡ false) where
  fed-nothing : (parts : List (List ℕ)) → after library (map C.feed_part parts) m ≡ m
  unfolding after leaves
  fed-nothing [] = refl
  fed-nothing (p ∷ ps) = ap (after library (map C.feed_part ps)) (unfed p m (λ e h. true-false (sym h ∙ o))) ∙ fed-nothing ps

  nothing-closed : accepted (asked C.close_load m) ≡ false
  unfolding asked close_reply
  nothing-closed = rw o (by (sound m))
    where
      by : (b : Bool) → accepted (C.replied (if b then refusing NotHeld else refusing DamagedPool)) ≡ false
      by true = refl
      by false = refl

module _ (label : ℕ) (parts : List (List ℕ)) (m : List ℕ) (t : are_bytes (joined parts) ≡ true) where
  module _ (p : Openable label m) where
    fed-is : Is (fed_under library label parts m) (fed_to (decode m) label parts)
    unfolding all
    fed-is =
        subst (Is (fed_under library label parts m)) (steps-opened (decode m) label p.free parts)
        (is-after (C.open_load label ∷ map C.feed_part parts) m (closed (decode m)) (typed-parts parts t) (still-shut m p.undamaged p.none_open))

    pub closed-answer : asked C.close_load (fed_under library label parts m) ≡ C.replied (loaded_answer label (joined parts) (decode m))
    closed-answer =
        asked_is C.close_load (fed_under library label parts m) (fed_to (decode m) label parts) fed-is
        ∙ closing-says (decode m) label parts (room-decoded m p.undamaged)

    closed-texts : decode (leaves C.close_load (fed_under library label parts m)) ≡ held_then (decode m) label parts
    closed-texts =
        ap (λ (s : State). s.texts)
        ((is-step C.close_load (fed_under library label parts m) (fed_to (decode m) label parts) refl fed-is).state
        ∙ closing-steps (decode m) label parts (room-decoded m p.undamaged))

    seen : (c : C.Call) → C.query c ≡ true → asked c (fed_under library label parts m) ≡ asked c m
    seen c q =
        asked_is c (fed_under library label parts m) (fed_to (decode m) label parts) fed-is ∙ query-says c (fed_to (decode m) label parts) q
        ∙ sym (asked_is c m (closed (decode m)) (still-shut m p.undamaged p.none_open))

    load-answer : asked (C.load label (joined parts)) m ≡ C.replied (load_answer label (joined parts) (decode m))
    unfolding says
    load-answer = asked_is (C.load label (joined parts)) m (closed (decode m)) (still-shut m p.undamaged p.none_open)

    load-texts : decode (leaves (C.load label (joined parts)) m)
        ≡ (if done (load_answer label (joined parts) (decode m)) then with (decode m) (text_of label (joined parts)) else decode m)
    unfolding step
    load-texts =
        ap (λ (s : State). s.texts)
        (is-step (C.load label (joined parts)) m (closed (decode m)) refl (still-shut m p.undamaged p.none_open)).state
        ∙ by (done (load_answer label (joined parts) (decode m)))
      where
        by : (b : Bool) → let s = with (decode m) (text_of label (joined parts)) in
            (if b then closed s else closed (decode m)).texts ≡ (if b then s else decode m)
        by true = refl
        by false = refl

  -- refused, the opening leaves nothing to feed
  refused-opening : opens m ≡ false → accepted (asked (C.open_load label) m) ≡ false → fed_under library label parts m ≡ m
  unfolding after
  refused-opening o n = ap (after library (map C.feed_part parts)) (refusal-changes-nothing (C.open_load label) m n).0 ∙ fed-nothing m o parts

  -- "Demands 2 and 3 count a load at its closing"
  pub accepted-in-parts : opens m ≡ false → (accepted (asked C.close_load (fed_under library label parts m)) ≡ true) ↔ Admissible MOST label (joined parts) m
  accepted-in-parts o = (λ h. by (accepted (asked (C.open_load label) m)) refl h, backward)
    where
      by : (b : Bool) → accepted (asked (C.open_load label) m) ≡ b → accepted (asked C.close_load (fed_under library label parts m)) ≡ true
          → Admissible MOST label (joined parts) m
      by true y h =
          let p = openable label m y in
          let d = sym (accepted-done (loaded_answer label (joined parts) (decode m))) ∙ sym (ap accepted (closed-answer p)) ∙ h in
          taken-admissible MOST label (joined parts) m p.undamaged o (taken-measured MOST label (joined parts) (decode m) p.free d)
      by false n h =
          let z : fed_under library label parts m ≡ m = refused-opening o n in
          true-false (sym h ∙ ap (λ (x : List ℕ). accepted (asked C.close_load x)) z ∙ nothing-closed m o)

      backward : Admissible MOST label (joined parts) m → accepted (asked C.close_load (fed_under library label parts m)) ≡ true
      backward a =
          let p : Openable label m = record { undamaged = a.undamaged; none_open = o; free = a.free } in
          ap accepted (closed-answer p ∙ ap C.replied (measured-taken MOST label (joined parts) (decode m) (admissible-taken MOST label (joined parts) m a)))

pub cut-anywhere : CutAnywhere library
unfolding leaves
cut-anywhere =
    record {
      answers = λ label parts m t y. closed-answer label parts m t (openable label m y);
      texts = λ label parts m t y. closed-texts label parts m t (openable label m y);
      as_loaded = λ label parts m t y h.
          let p = openable label m y in
          let z = loaded-as label (joined parts) (decode m) p.free h in (
            closed-answer label parts m t p ∙ ap C.replied z ∙ sym (load-answer label parts m t p),
            closed-texts label parts m t p
                ∙ ap (λ (r : Reply). if done r then with (decode m) (text_of label (joined parts)) else decode m) z
                ∙ sym (load-texts label parts m t p),
          );
      until_closing = λ label parts m t y. seen label parts m t (openable label m y);
      joins = parts_join;
    }
