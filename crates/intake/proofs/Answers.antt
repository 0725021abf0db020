-- The answers of open, feed and drop, question by question: the pool is not ready for the call, and then 1 of an opening; a refusal leaves the
-- memory. Assumes nothing.
use Prim.Native.Nat.{ℕ}
use mathlib.Core.Path.{◌≡◌, sym}
use mathlib.Core.Bool.{true, false}
use mathlib.Core.List.{List}
use Rattle.std.specs.Prelude.{Ok, Err, if◌then◌else◌}
use Rattle.refusal.specs.declared.Refusal.{Refusal}
use Rattle.refusal.specs.declared.Refusal.TheVariants.{LabelHeld}
use Rattle.layout.specs.Memory.{decode, open_label}
use Rattle.pool.specs.Held.{held}
use Rattle.pool.specs.Ready.{with_none_open, with_one_open}
use Rattle.pool.specs.Replies.{refusing}
use Rattle.pool.proofs.Tested.{closed-sound, closed-shut, closed-refused, open-sound, open-opens, open-refused}
use Rattle.feeding.specs.Parts.{fed}
use Rattle.entering.specs.Entries.{complete_on}
use Rattle.intake.specs.Opened.{open_in, stowed, beginning, shut}
use Rattle.intake.specs.Calls.{open_reply, open_memory, feed_reply, feed_memory, drop_memory, Opens, Feeds, Drops}

-- ---- open

module _ (label : ℕ) (m : List ℕ) where
  open-refuses : (q : Refusal) → open_reply label m ≡ refusing q → Opens label m (refusing q) m
  unfolding open_memory
  open-refuses q e = record { reply = sym e; memory = rw e }

  pub open-unready : (q : Refusal) → with_none_open m ≡ Err q → Opens label m (refusing q) m
  unfolding open_reply
  open-unready q e = open-refuses q (closed-refused m q (if held label (decode m) then refusing LabelHeld else Ok tt) e)

  module _ (e : with_none_open m ≡ Ok tt) where
    pub open-held : held label (decode m) ≡ true → Opens label m (refusing LabelHeld) m
    unfolding open_reply
    open-held h = open-refuses LabelHeld (rw (closed-sound m e, closed-shut m e, h))

    open-answers : held label (decode m) ≡ false → open_reply label m ≡ Ok tt
    unfolding open_reply
    open-answers h = rw (closed-sound m e, closed-shut m e, h)

    pub open_done : held label (decode m) ≡ false → (after : List ℕ) → after ≡ stowed label (beginning m) → Opens label m (Ok tt) after
    unfolding open_memory
    open_done h after p = let d = open-answers h in record { reply = sym d; memory = rw d p }

-- ---- feed and drop

module _ (m : List ℕ) where
  feed-refused : (q : Refusal) → with_one_open m ≡ Err q → feed_reply m ≡ refusing q
  unfolding feed_reply
  feed-refused q e = open-refused m q (Ok tt) e

  feed-answers : with_one_open m ≡ Ok tt → feed_reply m ≡ Ok tt
  unfolding feed_reply
  feed-answers e = rw (open-sound m e, open-opens m e)

  pub feed-unready : (part : List ℕ) (q : Refusal) → with_one_open m ≡ Err q → Feeds part m (refusing q) m
  unfolding feed_memory
  feed-unready part q e = let r = feed-refused q e in record { reply = sym r; memory = rw r }

  pub feed-done : (part : List ℕ) → with_one_open m ≡ Ok tt → (after : List ℕ) → after ≡ stowed (open_label m) (fed complete_on (open_in m) part) → Feeds part m (Ok tt) after
  unfolding feed_memory
  feed-done part e after p = let d = feed-answers e in record { reply = sym d; memory = rw d p }

  pub drop-unready : (q : Refusal) → with_one_open m ≡ Err q → Drops m (refusing q) m
  unfolding drop_memory
  drop-unready q e = let r = feed-refused q e in record { reply = sym r; memory = rw r }

  pub drop-done : with_one_open m ≡ Ok tt → (after : List ℕ) → after ≡ shut m → Drops m (Ok tt) after
  unfolding drop_memory
  drop-done e after p = let d = feed-answers e in record { reply = sym d; memory = rw d p }
