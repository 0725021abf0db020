-- "A text is accepted exactly when its label is not held, the rules admit it and the undamaged pool has room." "Order: 15 first; then by
-- call 1, 2, the first faulty line (in it 3, then 4, then whichever of 5 and 6 starts at the earlier byte), 7"; 17 to 21 "stand where 5 stood";
-- 22 "stands after 15". Definitions only.
use Rattle.std.specs.Prelude.{ℕ, ◌≤◌, ◌≡◌, Bool, true, false, List, [], ◌∷◌, ◌++◌, ltb, length, Ok, if◌then◌else◌}
use Rattle.refusal.specs.declared.Refusal.TheVariants.{LabelHeld, TextTooLong, NoRoom, DamagedPool, TextOpen}
use Rattle.value.specs.Faults.{refusal_of}
use Rattle.statement.specs.Statements.{Event, statements, openings, givings, bytes_given}
use Rattle.text.specs.Columns.{column_of}
use Rattle.text.specs.Text.{Read, fine, refused, read_text, added}
use Rattle.layout.specs.State.{Text, Pool, flat, values_of, bytes_of}
use Rattle.layout.specs.Limits.{room, LONGEST_LOAD}
use Rattle.layout.specs.Memory.{decode, put, opens}
use Rattle.layout.specs.Damage.{sound}
use Rattle.pool.specs.Held.{held}
use Rattle.pool.specs.Replies.{Reply, done, refusing, refusing_at}

-- the text under its label
unfoldable pub text_of : (label : ℕ) (bytes : List ℕ) → Text
text_of label bytes = record { label = label; body = statements (added (read_text bytes)) }

-- the state with one text more: "Taking out a label and loading it again puts it last."
abbrev pub with : Pool → Text → Pool
with s t = s ++ (t ∷ [])

-- it has so many statements, values and bytes in strings
pub record Counted (t : Text) (statements values spelled : ℕ) : Type 0 where
  pub statements= : length t.body ≡ statements
  pub values= : length (flat values_of t.body) ≡ values
  pub bytes= : length (flat bytes_of t.body) ≡ spelled

-- by what reading the text gave, and whether there is room
abbrev pub admitted : Read → (room : Bool) → Reply
admitted (fine es) true = Ok tt
admitted (fine es) false = refusing NoRoom
admitted (refused q line place) room = refusing_at (refusal_of q) line (column_of place)

-- on the state
unfoldable pub load_answer : (label : ℕ) (bytes : List ℕ) → Pool → Reply
load_answer label bytes s =
    if held label s then refusing LabelHeld
    else (if ltb LONGEST_LOAD (length bytes) then refusing TextTooLong
    else admitted (read_text bytes) (room (with s (text_of label bytes))))

unfoldable pub load_reply : (label : ℕ) (bytes m : List ℕ) → Reply
unfolding load_answer
load_reply label bytes m =
    if sound m then (if opens m then refusing TextOpen else load_answer label bytes (decode m)) else refusing DamagedPool

unfoldable pub load_memory : (label : ℕ) (bytes m : List ℕ) → List ℕ
unfolding load_reply
load_memory label bytes m = if done (load_reply label bytes m) then put (with (decode m) (text_of label bytes)) m else m

-- the whole contract
pub record Loads (label : ℕ) (bytes before : List ℕ) (r : Reply) (after : List ℕ) : Type 0 where
  pub reply : r ≡ load_reply label bytes before
  pub memory : after ≡ load_memory label bytes before

-- a text of so many statements, values and bytes in strings is accepted
pub record Accepts (label : ℕ) (bytes : List ℕ) (statements values spelled : ℕ) (m : List ℕ) : Type 0 where
  pub undamaged : sound m ≡ true
  pub events : List Event
  pub reads : read_text bytes ≡ fine events
  pub long : length bytes ≤ LONGEST_LOAD
  pub opens : openings events ≡ statements
  pub gives : givings events ≡ values
  pub spells : bytes_given events ≡ spelled
  pub roomy : room (with (decode m) (text_of label bytes)) ≡ true
