-- An undamaged pool stays undamaged, and its state goes as the call says: a call writes nothing, a state that a memory can hold, or what crate
-- `keeping` says of the open text. Assumes nothing.
use Prim.Native.Nat.{ℕ}
use mathlib.Core.Path.{◌≡◌, refl, sym, ap, ◌∙◌, subst}
use mathlib.Core.Bool.{Bool, true, false, true≢false}
use mathlib.Core.List.{List, []}
use Rattle.std.specs.Prelude.{if◌then◌else◌, Ok}
use Rattle.refusal.specs.declared.Refusal.TheVariants.{LabelHeld, TextOpen}
use Rattle.layout.specs.State.{Pool}
use Rattle.layout.specs.Limits.{room}
use Rattle.layout.specs.Memory.{decode, put, opens, open_label}
use Rattle.layout.specs.Damage.{sound}
use Rattle.layout.proofs.Legal.{fits-of}
use Rattle.layout.proofs.Holds.{put-closed}
use Rattle.pool.specs.Replies.{Reply, done, refusing}
use Rattle.pool.specs.Empty.{empty_reply, clear_reply}
use Rattle.pool.specs.Held.{held}
use Rattle.loading.specs.Load.{text_of, with, load_answer, load_reply, load_memory}
use Rattle.pool.specs.Remove.{without, remove_answer, remove_reply, remove_memory}
use Rattle.feeding.specs.Parts.{opening, fed}
use Rattle.opening.specs.Storing.{start, complete}
use Rattle.opening.specs.Closing.{close_answer, closed_pool}
use Rattle.intake.specs.Opened as I
use Rattle.intake.specs.Opened.{state_in}
use Rattle.intake.specs.Calls.{are_bytes, open_reply, open_memory, feed_reply, feed_memory, close_reply, close_memory, drop_memory}
use Rattle.keeping.proofs.Opened.{opens_as, opened-beside, opened-state}
use Rattle.keeping.proofs.Fed.{fed-beside, fed-state}
use Rattle.keeping.proofs.Closed.{shut-without, closed-sound, closed-texts}
use Rattle.promises.specs.Calls as C
use Rattle.promises.specs.Calls.{Call, leaves, library, typed}
use Rattle.promises.specs.Demands.{NoDamage}
use Rattle.promises.proofs.Said.{Openness, shut, ajar, State, closed, openness, state_of, wanting_none, open_answer, sound-sized, sound-size}
use Rattle.promises.proofs.Held.{Is, state-closed, state-open, room-decoded, emptied-is, unchanged, still-shut, load_is, remove-is}

-- ---- the state after a call

abbrev pub fed_open : Pool → (part : List ℕ) → Openness → Openness
fed_open s part shut = shut
fed_open s part (ajar label o) = ajar label (fed (complete s) o part)

abbrev pub closed_texts : Pool → Openness → Pool
closed_texts s shut = s
closed_texts s (ajar label o) = closed_pool s label o

unfoldable pub step : Call → State → State
step C.make_empty s = closed []
step (C.load label bytes) s =
    if done (wanting_none s.opened (load_answer label bytes s.texts)) then closed (with s.texts (text_of label bytes)) else s
step (C.open_load label) s =
    if done (wanting_none s.opened (open_answer label s.texts)) then record { texts = s.texts; opened = ajar label (opening start) } else s
step (C.feed_part part) s = record { texts = s.texts; opened = fed_open s.texts part s.opened }
step C.close_load s = closed (closed_texts s.texts s.opened)
step C.drop_load s = closed s.texts
step (C.remove label) s = if done (wanting_none s.opened (remove_answer label s.texts)) then closed (without label s.texts) else s
step C.clear s = if done (wanting_none s.opened (Ok tt)) then closed [] else s
step (C.fetch name buffer) s = s
step (C.fetch_string name place buffer) s = s
step C.totals s = s
step (C.orientation source code epoch) s = s
step (C.radii source code) s = s

-- ---- one call

module _ (m : List ℕ) (e : sound m ≡ true) where
  -- a call that wants none open, and writes where it is done
  none_is : (r : Reply) (after : List ℕ) (s : State) → (opens m ≡ false → done r ≡ true → Is after s)
      → Is (if done (if opens m then refusing TextOpen else r) then after else m) (if done (wanting_none (state_of m).opened r) then s else state_of m)
  none_is r after s f = by (opens m) refl
    where
      by-done : (d : Bool) → opens m ≡ false → done r ≡ d → Is (if d then after else m) (if d then s else state_of m)
      by-done true o h = f o h
      by-done false o h = unchanged m e

      by : (b : Bool) → opens m ≡ b
          → Is (if done (if b then refusing TextOpen else r) then after else m)
          (if done (wanting_none (openness b (open_label m) (state_in m)) r) then s else state_of m)
      by true o = unchanged m e
      by false o = by-done (done r) o refl

  -- ---- those on a text in parts

  opened-is : (label : ℕ) → opens m ≡ false → held label (decode m) ≡ false
      → Is (I.stowed label (I.beginning m)) (record { texts = decode m; opened = ajar label (opening start) })
  opened-is label o f =
      let s : State = record { texts = decode m; opened = ajar label (opening start) } in
      let b = opened-beside label m e o f in
      subst (λ (x : List ℕ). Is x s) (opens_as label m e o f)
      (record {
        undamaged = b.undamaged;
        state = state-open (open_memory label m) (decode m) label (opening start) b.same b.is_open b.labelled (opened-state label m e o f);
      })

  open_is : (label : ℕ) → opens m ≡ false → done (open_answer label (decode m)) ≡ true
      → Is (I.stowed label (I.beginning m)) (record { texts = decode m; opened = ajar label (opening start) })
  open_is label o d = opened-is label o (by (held label (decode m)) d)
    where
      by : (b : Bool) → done (if b then refusing LabelHeld else Ok tt) ≡ true → b ≡ false
      by true h = absurd (true≢false (sym h))
      by false h = refl

  feed-is : (part : List ℕ) → are_bytes part ≡ true
      → Is (feed_memory part m) (record { texts = decode m; opened = fed_open (decode m) part (state_of m).opened })
  unfolding feed_memory feed_reply
  feed-is part t = by (opens m) refl
    where
      by : (b : Bool) → opens m ≡ b
          → Is (feed_memory part m) (record { texts = decode m; opened = fed_open (decode m) part (openness b (open_label m) (state_in m)) })
      by true o =
          let b = fed-beside part m e o in
          record {
            undamaged = b.undamaged;
            state = state-open (feed_memory part m) (decode m) (open_label m) _ b.same b.is_open b.labelled (fed-state part m e o t);
          }
      by false o = rw (e, o) (still-shut m e o)

  -- any part, also one that is no bytes
  feed-sound : (part : List ℕ) → sound (feed_memory part m) ≡ true
  unfolding feed_memory feed_reply
  feed-sound part = by (opens m) refl
    where
      by : (b : Bool) → opens m ≡ b → sound (feed_memory part m) ≡ true
      by true o = (fed-beside part m e o).undamaged
      by false o = rw (e, o) e

  shut-is : Is (I.shut m) (closed (decode m))
  shut-is = let w = shut-without m e in record { undamaged = w.undamaged; state = state-closed (I.shut m) (decode m) w.same w.none_open }

  drop-is : Is (drop_memory m) (closed (decode m))
  unfolding drop_memory feed_reply
  drop-is = by (opens m) refl
    where
      by : (b : Bool) → opens m ≡ b → Is (drop_memory m) (closed (decode m))
      by true o = rw (e, o) shut-is
      by false o = rw (e, o) (still-shut m e o)

  -- what is put at a closing can be held
  closed_is : opens m ≡ true → done (close_answer (decode m) (state_in m)) ≡ true
      → let s = closed_pool (decode m) (open_label m) (state_in m) in Is (put s m) (closed s)
  closed_is o d =
      let s = closed_pool (decode m) (open_label m) (state_in m) in
      let u = closed-sound m e o d in
      let t = closed-texts m e o d in
      let r : room s ≡ true = sym (ap room t) ∙ room-decoded (put s m) u in
      record { undamaged = u; state = state-closed (put s m) s t (put-closed s m (fits-of s r) (sound-size m e)) }

  -- refused, it leaves the texts
  not-closed : done (close_answer (decode m) (state_in m)) ≡ false → closed_pool (decode m) (open_label m) (state_in m) ≡ decode m
  unfolding closed_pool
  not-closed d = rw d

  by-done : (d : Bool) → opens m ≡ true → done (close_answer (decode m) (state_in m)) ≡ d
      → let s = closed_pool (decode m) (open_label m) (state_in m) in Is (if d then put s m else I.shut m) (closed s)
  by-done true o d = closed_is o d
  by-done false o d = subst (λ (s : Pool). Is (I.shut m) (closed s)) (sym (not-closed d)) shut-is

  close-is : Is (close_memory m) (closed (closed_texts (decode m) (state_of m).opened))
  unfolding close_memory close_reply
  close-is = by (opens m) refl
    where
      by : (b : Bool) → opens m ≡ b → Is (close_memory m) (closed (closed_texts (decode m) (openness b (open_label m) (state_in m))))
      by true o = rw (e, o) (by-done (done (close_answer (decode m) (state_in m))) o refl)
      by false o = rw (e, o) (still-shut m e o)

  pub leaves-is : (c : Call) → typed c ≡ true → Is (leaves c m) (step c (state_of m))
  unfolding leaves step empty_reply clear_reply load_reply load_memory remove_reply remove_memory open_reply open_memory
  leaves-is C.make_empty t = rw (sound-sized m e) (emptied-is m (sound-size m e))
  leaves-is (C.load label bytes) t = rw e (none_is (load_answer label bytes (decode m)) _ _ (λ o h. load_is m e label bytes h))
  leaves-is (C.open_load label) t = rw e (none_is (open_answer label (decode m)) _ _ (λ o h. open_is label o h))
  leaves-is (C.feed_part part) t = feed-is part t
  leaves-is C.close_load t = close-is
  leaves-is C.drop_load t = drop-is
  leaves-is (C.remove label) t = rw e (none_is (remove_answer label (decode m)) _ _ (λ o h. remove-is m e label))
  leaves-is C.clear t = rw e (none_is (Ok tt) _ _ (λ o h. emptied-is m (sound-size m e)))
  leaves-is (C.fetch name buffer) t = unchanged m e
  leaves-is (C.fetch_string name place buffer) t = unchanged m e
  leaves-is C.totals t = unchanged m e
  leaves-is (C.orientation source code epoch) t = unchanged m e
  leaves-is (C.radii source code) t = unchanged m e

pub no-damage : NoDamage library
unfolding leaves
no-damage C.make_empty m e = (leaves-is m e C.make_empty refl).undamaged
no-damage (C.load label bytes) m e = (leaves-is m e (C.load label bytes) refl).undamaged
no-damage (C.open_load label) m e = (leaves-is m e (C.open_load label) refl).undamaged
no-damage (C.feed_part part) m e = feed-sound m e part
no-damage C.close_load m e = (leaves-is m e C.close_load refl).undamaged
no-damage C.drop_load m e = (leaves-is m e C.drop_load refl).undamaged
no-damage (C.remove label) m e = (leaves-is m e (C.remove label) refl).undamaged
no-damage C.clear m e = (leaves-is m e C.clear refl).undamaged
no-damage (C.fetch name buffer) m e = e
no-damage (C.fetch_string name place buffer) m e = e
no-damage C.totals m e = e
no-damage (C.orientation source code epoch) m e = e
no-damage (C.radii source code) m e = e
