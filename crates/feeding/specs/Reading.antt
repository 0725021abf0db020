-- What complete lines come to where a text is read: what they add, or the first fault. Definitions only.
use Rattle.std.specs.Prelude.{ℕ, ◌≡◌, List, [], ◌++◌, ltb, length, if◌then◌else◌}
use Rattle.value.specs.declared.faults.Fault.{Fault}
use Rattle.statement.specs.Statements.{Event}
use Rattle.statement.specs.declared.values.Reader.{Reader}
use Rattle.statement.specs.declared.values.Reader.TheVariants as R
use Rattle.text.specs.Line.{Outcome, next, fault, answered}
use Rattle.text.specs.Text.{Read, refused, finished, preceded, read_text}
use Rattle.feeding.specs.Parts.{MOST, Open, Ended, opening, lastly, fed_all, joined}

-- how the reader stands, and what the lines added; or the first fault, its line and place
pub data Progress : Type 0 where
  going : Reader → List Event → Progress
  stopped : Fault → (line place : ℕ) → Progress

abbrev pub answering : List Event → Outcome → (number : ℕ) → Progress
answering es (next r fs) number = going r (es ++ fs)
answering es (fault q k) number = stopped q number k

abbrev pub completed : Progress → (number : ℕ) → List ℕ → Progress
completed (going r es) number line = answering es (answered r line) number
completed (stopped q n k) number line = stopped q n k

-- what a text is that ends after so many lines, the last one so long
abbrev pub ending_at : Progress → (number long : ℕ) → Read
ending_at (going r es) number long = preceded es (finished r number long)
ending_at (stopped q n k) number long = refused q n k

abbrev pub ending : Ended Progress → Read
ending e = ending_at e.progress e.number e.long

-- what a text is at its closing: too many bytes, or read
pub data Closed : Type 0 where
  too_many : Closed
  whole : Read → Closed

unfoldable pub closing : Open Progress → Closed
unfolding lastly
closing o = if ltb MOST o.bytes then too_many else whole (ending (lastly completed o))

-- one load of all the bytes
unfoldable pub loaded : List ℕ → Closed
unfolding read_text
loaded text = if ltb MOST (length text) then too_many else whole (read_text text)

-- "Cut anywhere, .. the outcome at closing is that of one load of the joined bytes"
pub record CutAnywhere : Type 0 where
  pub closes : (parts : List (List ℕ)) → closing (fed_all completed (opening (going R.Text [])) parts) ≡ loaded (joined parts)
