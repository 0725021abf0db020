-- "the outcome at closing is that of one load of the joined bytes, with 4,194,304 bytes as the limit here": the answer of a closing and the texts
-- then held, in the order 2, the first fault, 7. Definitions only.
use Rattle.std.specs.Prelude.{ℕ, ◌≡◌, Bool, true, false, List, Ok, ltb, length, if◌then◌else◌}
use Rattle.refusal.specs.declared.Refusal.TheVariants.{TextTooLong, NoRoom}
use Rattle.value.specs.Faults.{refusal_of}
use Rattle.value.specs.declared.faults.Fault.TheVariants as F
use Rattle.statement.specs.declared.values.Reader.{Reader}
use Rattle.statement.specs.declared.values.Reader.TheVariants as R
use Rattle.text.specs.Columns.{column_of}
use Rattle.text.specs.Text.{read_text}
use Rattle.layout.specs.State.{Pool}
use Rattle.layout.specs.Limits.{TEXTS, room}
use Rattle.loading.specs.Load.{text_of, with, admitted}
use Rattle.pool.specs.Replies.{Reply, done, refusing, refusing_at}
use Rattle.feeding.specs.Parts.{MOST, Open, Ended, opening, fed_all, joined, lastly}
use Rattle.bookmark.specs.declared.mark.Standing.{Standing}
use Rattle.bookmark.specs.declared.mark.Standing.TheVariants as S
use Rattle.opening.specs.Storing.{Progress, start, complete}

-- 7 where there is no room
abbrev pub by_room : (fits : Bool) → Reply
by_room true = Ok tt
by_room false = refusing NoRoom

-- the end of the text after so many lines, the last one so long, by how the reader stands; `fits` is whether there is room
abbrev pub at_end : Reader → (number long : ℕ) → (fits : Bool) → Reply
at_end R.Text number long fits = by_room fits
at_end R.Data number long fits = by_room fits
at_end (R.List k) number long fits = refusing_at (refusal_of F.OpenList) number (column_of long)

abbrev pub end_reply : Pool → Standing → (number long : ℕ) → Reply
end_reply s (S.Storing r) number long = at_end r number long (ltb (length s) TEXTS)
end_reply s (S.Overflowed r) number long = at_end r number long false
end_reply s (S.Faulted f) number long = refusing_at (refusal_of f.fault) f.line (column_of f.place)

-- the open text as it closes: its last line may lack an LF
abbrev pub closed : Pool → Open Progress → Ended Progress
closed s o = lastly (complete s) o

unfoldable pub close_answer : Pool → Open Progress → Reply
unfolding complete
close_answer s o =
    if ltb MOST o.bytes then refusing TextTooLong
    else end_reply s (closed s o).progress.standing (closed s o).number (closed s o).long

-- the texts held after it
unfoldable pub closed_pool : Pool → (label : ℕ) → Open Progress → Pool
unfolding close_answer
closed_pool s label o = if done (close_answer s o) then with s (record { label = label; body = (closed s o).progress.body }) else s

-- ---- the claim: one load of the joined bytes, but for the limit

abbrev pub loaded_answer : (label : ℕ) (bytes : List ℕ) → Pool → Reply
loaded_answer label bytes s = if ltb MOST (length bytes) then refusing TextTooLong else admitted (read_text bytes) (room (with s (text_of label bytes)))

pub record ClosesAsLoaded (s : Pool) (label : ℕ) (parts : List (List ℕ)) : Type 0 where
  pub answer : close_answer s (fed_all (complete s) (opening start) parts) ≡ loaded_answer label (joined parts) s
  pub pool :
      closed_pool s label (fed_all (complete s) (opening start) parts)
      ≡ (if done (loaded_answer label (joined parts) s) then with s (text_of label (joined parts)) else s)

-- of any pool within the limits
pub record CutInPool : Type 0 where
  pub closes : (s : Pool) (label : ℕ) (parts : List (List ℕ)) → room s ≡ true → ClosesAsLoaded s label parts
