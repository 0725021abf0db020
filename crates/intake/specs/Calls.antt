-- "Let a load be opened under a label, fed with parts of any length, also of none, and closed." "An open one can be dropped". "Refusals: 22 TEXT OPEN,
-- for .. opening .. while one is open, stands after 15 (opening then gives 1); feeding, closing or dropping with none open is 8." Definitions only.
use Rattle.std.specs.Prelude.{ℕ, ◌≡◌, Bool, ◌&&◌, List, Ok, ltb, if◌then◌else◌}
use Rattle.refusal.specs.declared.Refusal.TheVariants.{LabelHeld, NotHeld, DamagedPool, TextOpen}
use Rattle.words.specs.Halves.{all}
use Rattle.layout.specs.Memory.{decode, put, opens, open_label}
use Rattle.layout.specs.Damage.{sound}
use Rattle.pool.specs.Held.{held}
use Rattle.pool.specs.Replies.{Reply, done, refusing}
use Rattle.feeding.specs.Parts.{fed}
use Rattle.opening.specs.Closing.{close_answer, closed_pool}
use Rattle.entering.specs.Entries.{complete_on}
use Rattle.intake.specs.Opened.{open_in, state_in, stowed, beginning, shut}

-- ---- open

unfoldable pub open_reply : (label : ℕ) (m : List ℕ) → Reply
unfolding held
open_reply label m =
    if sound m
    then (if opens m then refusing TextOpen else (if held label (decode m) then refusing LabelHeld else Ok tt))
    else refusing DamagedPool

unfoldable pub open_memory : (label : ℕ) (m : List ℕ) → List ℕ
unfolding open_reply
open_memory label m = if done (open_reply label m) then stowed label (beginning m) else m

-- ---- feed and drop: 8 where none is open

-- a part is numbers below 256, as a slice of bytes is
abbrev pub are_bytes : List ℕ → Bool
are_bytes bs = all (λ b. ltb b 256) bs

unfoldable pub feed_reply : (m : List ℕ) → Reply
feed_reply m = if sound m then (if opens m then Ok tt else refusing NotHeld) else refusing DamagedPool

unfoldable pub feed_memory : (part m : List ℕ) → List ℕ
unfolding feed_reply fed complete_on
feed_memory part m = if done (feed_reply m) then stowed (open_label m) (fed complete_on (open_in m) part) else m

unfoldable pub drop_memory : (m : List ℕ) → List ℕ
unfolding feed_reply
drop_memory m = if done (feed_reply m) then shut m else m

-- ---- close

unfoldable pub close_reply : (m : List ℕ) → Reply
unfolding close_answer
close_reply m = if sound m then (if opens m then close_answer (decode m) (state_in m) else refusing NotHeld) else refusing DamagedPool

-- "A closing refused by any but 8 and 15 ends the open text, its only change"
unfoldable pub close_memory : (m : List ℕ) → List ℕ
unfolding close_reply closed_pool
close_memory m =
    if sound m && opens m
    then (if done (close_reply m) then put (closed_pool (decode m) (open_label m) (state_in m)) m else shut m)
    else m

-- ---- the whole contract of each call

pub record Opens (label : ℕ) (before : List ℕ) (r : Reply) (after : List ℕ) : Type 0 where
  pub reply : r ≡ open_reply label before
  pub memory : after ≡ open_memory label before

pub record Feeds (part before : List ℕ) (r : Reply) (after : List ℕ) : Type 0 where
  pub reply : r ≡ feed_reply before
  pub memory : after ≡ feed_memory part before

pub record Closes (before : List ℕ) (r : Reply) (after : List ℕ) : Type 0 where
  pub reply : r ≡ close_reply before
  pub memory : after ≡ close_memory before

pub record Drops (before : List ℕ) (r : Reply) (after : List ℕ) : Type 0 where
  pub reply : r ≡ feed_reply before
  pub memory : after ≡ drop_memory before
