-- The open text at its end as the code has it. Definitions only.
use Rattle.std.specs.Prelude.{ℕ, ◌+◌, ◌≤◌, ◌<◌, ◌≡◌, true, List, [], ◌∷◌, Ok, length, take}
use Rattle.text.specs.Lengths.{LONGEST_LINE}
use Rattle.layout.specs.State.{flat, values_of, bytes_of}
use Rattle.words.specs.Halves.{HALF, joined}
use Rattle.words.specs.Over.{over}
use Rattle.layout.specs.Limits.{TEXTS, STATEMENTS, VALUES, BYTES, TEXTS_AT, HEADS_AT}
use Rattle.layout.specs.Memory.{text_count, statement_count, value_count, byte_count, decode, laid_behind, NONE_OPEN}
use Rattle.layout.specs.Damage.{orderly}
use Rattle.feeding.specs.Kept.{ROOM}
use Rattle.opening.specs.Closing.{closed, close_answer}
use Rattle.bookmark.specs.declared.mark.Bookmark.{Bookmark}
use Rattle.bookmark.specs.declared.mark.Entered.{Entered}
use Rattle.bookmark.specs.declared.mark.Standing.{Standing}
use Rattle.bookmark.specs.declared.mark.Standing.TheVariants as S
use Rattle.intake.specs.Opened.{state_in}
use Rattle.intake.specs.State.{Opened, Finds}
use Rattle.closing.specs.declared.ending.Ended.{Ended}

-- the bookmark that was found in the memory
pub record Found (m : List ℕ) (b : Bookmark) : Type 0 where
  pub finds : Finds m b
  pub open-in : Opened m

-- how the text stands with its last line
pub record Lasts (m : List ℕ) (r : Ended) : Type 0 where
  pub standing : r.entered.standing ≡ (closed (decode m) (state_in m)).progress.standing
  pub number : r.number ≡ (closed (decode m) (state_in m)).number
  pub long : r.long ≡ (closed (decode m) (state_in m)).long

-- a fault's place has a column, and so has the end of the last line
abbrev pub Placed : Standing → Type 0
Placed (S.Storing r) = Unit
Placed (S.Overflowed r) = Unit
Placed (S.Faulted f) = f.place ≤ LONGEST_LINE

pub record Short (m : List ℕ) (r : Ended) : Type 0 where
  pub open-in : Opened m
  pub placed : Placed r.entered.standing
  pub long : r.long ≤ ROOM

-- the closing is done
pub record Holds (m : List ℕ) (b : Bookmark) : Type 0 where
  pub found : Found m b
  pub done : close_answer (decode m) (state_in m) ≡ Ok tt

-- the last line is stored, and what stands before the statements stays
pub record Stores (m after : List ℕ) (r : Entered) : Type 0 where
  pub held : orderly TEXTS after ≡ true
  pub is : after ≡ laid_behind (decode m) (closed (decode m) (state_in m)).progress.body m
  pub statements : r.statements ≡ length (closed (decode m) (state_in m)).progress.body
  pub values : r.values ≡ length (flat values_of (closed (decode m) (state_in m)).progress.body)
  pub bytes : r.bytes ≡ length (flat bytes_of (closed (decode m) (state_in m)).progress.body)
  pub front : take HEADS_AT after ≡ take HEADS_AT m

-- ---- a text that stands behind what is held becomes one of the held ones

-- the limits are kept
pub record Sealable (m : List ℕ) (label : ℕ) (r : Entered) : Type 0 where
  pub held : orderly TEXTS m ≡ true
  pub short : label < HALF
  pub texts : text_count m < TEXTS
  pub statements : statement_count m + r.statements ≤ STATEMENTS
  pub values : value_count m + r.values ≤ VALUES
  pub bytes : byte_count m + r.bytes ≤ BYTES

-- its word, and then the front
abbrev pub sealed : (label : ℕ) → Entered → List ℕ → List ℕ
sealed label r m =
    over 0 ((text_count m + 1) ∷ (statement_count m + r.statements) ∷ (value_count m + r.values) ∷ (byte_count m + r.bytes) ∷ NONE_OPEN ∷ [])
    (over (TEXTS_AT + text_count m) (joined label r.statements ∷ []) m)
