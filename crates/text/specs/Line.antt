-- The answer to one line: what it adds and how the reader stands after it, or its first fault. Definitions only.
use Rattle.std.specs.Prelude.{ℕ, ◌-◌, List, [], ◌∷◌, ◌++◌, Option, Some, None, Result, Ok, Err, map, ltb, length, take, drop, if◌then◌else◌}
use Rattle.plain.specs.Bytes.{fair}
use Rattle.plain.specs.Runs.{past}
use Rattle.value.specs.declared.faults.Fault.{Fault}
use Rattle.value.specs.declared.faults.Fault.TheVariants as F
use Rattle.value.specs.declared.faults.LineFault.{LineFault}
use Rattle.value.specs.Faults.{faulty}
use Rattle.statement.specs.Values.{Given, given, wrong, listed, given_at}
use Rattle.statement.specs.Statements.{Event, opened, value, openings, givings, bytes_given}
use Rattle.statement.specs.Head.{head}
use Rattle.statement.specs.declared.head.Named.{Named}
use Rattle.statement.specs.declared.values.Reader.{Reader}
use Rattle.statement.specs.declared.values.Reader.TheVariants as R
use Rattle.statement.specs.declared.values.Values.{Values}
use Rattle.text.specs.Delimiters.{mark_of}
use Rattle.text.specs.Lengths.{LONGEST_LINE, too_long}
use Rattle.text.specs.declared.line.Step.{Step}
use Rattle.text.specs.declared.delimiters.Mark.{Mark}
use Rattle.text.specs.declared.delimiters.Mark.TheVariants as M

pub data Outcome : Type 0 where
  next : Reader → List Event → Outcome
  fault : Fault → (place : ℕ) → Outcome

-- values after some first events
abbrev pub adding : List Event → Given → Outcome
adding es (given r vs) = next r (es ++ map value vs)
adding es (wrong q k) = fault q k

-- ---- a data line

-- a statement, or a line of blanks
abbrev pub stated : List ℕ → Result (Option Named) LineFault → Outcome
stated line (Ok None) = next R.Data []
stated line (Ok (Some h)) = adding (opened (take (h.end - h.start) (drop h.start line)) h.operator ∷ []) (given_at line h.at)
stated line (Err f) = fault f.fault f.place

-- "Data lines hold bytes 32 to 126 and tabs only", and "4 points to the byte": the first that is none of them, before all else
abbrev pub fairly : List ℕ → Outcome → Outcome
fairly line o = if ltb (past fair line 0) (length line) then fault F.BadByte (past fair line 0) else o

-- ---- any line

-- a delimiter line inside an open list: "20 points .. to column 1 of a delimiter line"
abbrev pub section : Reader → Reader → Outcome
section R.Text r = next r []
section R.Data r = next r []
section (R.List k) r = fault F.OpenList 0

-- a line that is no delimiter: "Text-section lines are skipped, their bytes unread"
abbrev pub plain : Reader → List ℕ → Outcome
plain R.Text line = next R.Text []
plain R.Data line = fairly line (stated line (head line))
plain (R.List k) line = fairly line (adding [] (listed k line 0))

abbrev pub marked : Mark → Reader → List ℕ → Outcome
marked M.Data r line = section r R.Data
marked M.Text r line = section r R.Text
marked M.Plain r line = plain r line

-- "3 is now given for a data or delimiter line over 132, and its place is unchanged": before all else of the line, and "for a line too long
-- the column is 133"
unfoldable pub answered : Reader → List ℕ → Outcome
answered r line = if too_long (mark_of line) r (length line) then fault F.TooLong LONGEST_LINE else marked (mark_of line) r line

-- ---- the answer as the code gives it: how many statements are opened, how many values given, and how many bytes in strings

abbrev pub counted : Outcome → Result Step LineFault
counted (next r es) = Ok (record { reader = r; opened = openings es; given = givings es; bytes = bytes_given es })
counted (fault q k) = Err (faulty q k)

-- of a line that adds nothing
abbrev pub leaving : Reader → Step
leaving r = record { reader = r; opened = 0; given = 0; bytes = 0 }

-- of a line that opens so many statements and then takes values
abbrev pub stepped : (opened : ℕ) → Values → Step
stepped n v = record { reader = v.reader; opened = n; given = v.given; bytes = v.bytes }

abbrev pub answer_of : (opened : ℕ) → Result Values LineFault → Result Step LineFault
answer_of n (Ok v) = Ok (stepped n v)
answer_of n (Err f) = Err f
