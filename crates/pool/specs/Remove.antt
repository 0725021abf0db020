-- "Room freed by a removal can be used again.": the text under a label goes, and the others keep their order; 8 where "label not held",
-- 22 while a text is open. Definitions only.
use Rattle.std.specs.Prelude.{ℕ, ◌≡◌, List, [], ◌∷◌, Ok, eqb, if◌then◌else◌}
use Rattle.refusal.specs.declared.Refusal.TheVariants.{NotHeld, DamagedPool, TextOpen}
use Rattle.layout.specs.State.{Pool}
use Rattle.layout.specs.Memory.{decode, put, opens}
use Rattle.layout.specs.Damage.{sound}
use Rattle.pool.specs.Replies.{Reply, done, refusing}
use Rattle.pool.specs.Held.{held}

-- the other texts, in their order
unfoldable pub without : ℕ → Pool → Pool
without label [] = []
without label (t ∷ ts) = if eqb t.label label then ts else (t ∷ without label ts)

-- on the state
abbrev pub remove_answer : (label : ℕ) → Pool → Reply
remove_answer label s = if held label s then Ok tt else refusing NotHeld

unfoldable pub remove_reply : (label : ℕ) (m : List ℕ) → Reply
unfolding held
remove_reply label m =
    if sound m then (if opens m then refusing TextOpen else remove_answer label (decode m)) else refusing DamagedPool

unfoldable pub remove_memory : (label : ℕ) (m : List ℕ) → List ℕ
unfolding remove_reply without
remove_memory label m = if done (remove_reply label m) then put (without label (decode m)) m else m

-- the whole contract
pub record Removes (label : ℕ) (before : List ℕ) (r : Reply) (after : List ℕ) : Type 0 where
  pub reply : r ≡ remove_reply label before
  pub memory : after ≡ remove_memory label before
