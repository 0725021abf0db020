-- For each contract on a text in parts two wrong answers that it rules out: at a small instance, or on any memory with a text open. Assumes nothing.
use Prim.Native.Nat.{ℕ}
use mathlib.Core.Path.{◌≡◌, sym, ap, ◌∙◌}
use mathlib.Core.Bool.{true, true≢false}
use mathlib.Core.List.{List}
use Rattle.std.specs.Prelude.{Ok}
use Rattle.refusal.specs.declared.Refusal.{Refusal}
use Rattle.refusal.specs.declared.Refusal.TheVariants as Q
use Rattle.layout.specs.Memory.{decode, opens}
use Rattle.layout.specs.Damage.{sound}
use Rattle.pool.specs.Replies.{Reply, refusing, refusing_at}
use Rattle.pool.specs.Held.{held}
use Rattle.opening.specs.Closing.{close_answer}
use Rattle.intake.specs.Opened.{state_in, shut}
use Rattle.intake.specs.Calls.{Opens, Feeds, Closes, Drops, open_reply, feed_reply, close_reply, close_memory, drop_memory}
use Rattle.keeping.proofs.Opened.{opened-beside}
use Rattle.keeping.proofs.Closed.{shut-without}
use Rattle.promises.proofs.Instances.{noughts, noughts-sound, noughts-shut, noughts-empty}
use Rattle.promises.proofs.Wrong.{never}

-- done is no refusal
not-refused : {q : Refusal} {line column : ℕ} → (Ok tt) ≡ refusing_at q line column → ⊥
not-refused e = never cc

-- ---- open: an empty pool holds no label; a text is open then

pub open-refused : (after : List ℕ) → Opens 1 noughts (refusing Q.LabelHeld) after → ⊥
unfolding open_reply held
open-refused after c = not-refused (sym (c.reply ∙ rw (noughts-sound, noughts-shut, noughts-empty)))

pub open-unwritten : Opens 1 noughts (Ok tt) noughts → ⊥
unfolding held
open-unwritten c =
    let b = opened-beside 1 noughts noughts-sound noughts-shut (rw noughts-empty) in
    true≢false (sym b.is_open ∙ sym (ap opens c.memory) ∙ noughts-shut)

-- ---- feed: with none open it is refused; with one open no fault is told

pub feed-granted : (part after : List ℕ) → Feeds part noughts (Ok tt) after → ⊥
unfolding feed_reply
feed-granted part after c = let z : (Ok tt) ≡ refusing Q.NotHeld = c.reply ∙ rw (noughts-sound, noughts-shut) in not-refused z

module _ (m : List ℕ) (e : sound m ≡ true) (o : opens m ≡ true) where
  pub feed-faulted : (part after : List ℕ) (q : Refusal) (line column : ℕ) → Feeds part m (refusing_at q line column) after → ⊥
  unfolding feed_reply
  feed-faulted part after q line column c = not-refused (sym (c.reply ∙ rw (e, o)))

-- ---- close: with none open it is refused; a refusal ends the open text

pub close-granted : (after : List ℕ) → Closes noughts (Ok tt) after → ⊥
unfolding close_reply
close-granted after c = let z : (Ok tt) ≡ refusing Q.NotHeld = c.reply ∙ rw (noughts-sound, noughts-shut) in not-refused z

module _ (m : List ℕ) (e : sound m ≡ true) (o : opens m ≡ true) where
  -- no memory with a text open is one with none
  still_open : m ≡ shut m → ⊥
  still_open z = true≢false (sym o ∙ ap opens z ∙ (shut-without m e).none_open)

  pub close_open : (q : Refusal) (line column : ℕ) → Closes m (refusing_at q line column) m → ⊥
  unfolding close_reply close_memory
  close_open q line column c =
      let r : close_answer (decode m) (state_in m) ≡ refusing_at q line column = rw (e, o) at (sym c.reply) in
      still_open (c.memory ∙ rw (e, o, r))

  -- ---- drop: with none open it is refused; the dropped text is open no more

  pub drop-open : (r : Reply) → Drops m r m → ⊥
  unfolding feed_reply drop_memory
  drop-open r c = still_open (c.memory ∙ rw (e, o))

pub drop-granted : (after : List ℕ) → Drops noughts (Ok tt) after → ⊥
unfolding feed_reply
drop-granted after c = let z : (Ok tt) ≡ refusing Q.NotHeld = c.reply ∙ rw (noughts-sound, noughts-shut) in not-refused z
