-- 15 is given by "every call that uses the pool; make empty for the size alone". "22 TEXT OPEN, for load, opening, removal and clear while one is
-- open, stands after 15"; "make empty drops it". Make empty and clear write the totals, and that no text is open, and leave every other word.
-- Definitions only.
use Rattle.std.specs.Prelude.{ℕ, ◌≡◌, List, [], Ok, if◌then◌else◌}
use Rattle.refusal.specs.declared.Refusal.TheVariants.{DamagedPool, TextOpen}
use Rattle.layout.specs.Memory.{put, opens}
use Rattle.layout.specs.Damage.{sized, sound}
use Rattle.pool.specs.Replies.{Reply, done, refusing}

unfoldable pub empty_reply : List ℕ → Reply
empty_reply m = if sized m then Ok tt else refusing DamagedPool

unfoldable pub clear_reply : List ℕ → Reply
clear_reply m = if sound m then (if opens m then refusing TextOpen else Ok tt) else refusing DamagedPool

-- the memory of no texts, where the call is not refused
abbrev pub emptied : Reply → List ℕ → List ℕ
emptied r m = if done r then put [] m else m

-- the whole contract of each call
pub record Empties (before : List ℕ) (r : Reply) (after : List ℕ) : Type 0 where
  pub reply : r ≡ empty_reply before
  pub memory : after ≡ emptied (empty_reply before) before

pub record Clears (before : List ℕ) (r : Reply) (after : List ℕ) : Type 0 where
  pub reply : r ≡ clear_reply before
  pub memory : after ≡ emptied (clear_reply before) before
