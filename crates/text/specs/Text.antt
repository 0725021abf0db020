-- A whole text: its lines, one after the other, up to the first faulty one. Definitions only.
use Rattle.std.specs.Prelude.{ℕ, ◌+◌, List, [], ◌∷◌, ◌++◌, Result, Ok, Err, length}
use Rattle.value.specs.declared.faults.Fault.{Fault}
use Rattle.value.specs.declared.faults.Fault.TheVariants as F
use Rattle.value.specs.declared.faults.LineFault.{LineFault}
use Rattle.value.specs.Faults.{faulty}
use Rattle.statement.specs.Statements.{Event, openings, givings, bytes_given}
use Rattle.statement.specs.declared.values.Reader.{Reader}
use Rattle.statement.specs.declared.values.Reader.TheVariants as R
use Rattle.text.specs.Lines.{lines}
use Rattle.text.specs.Line.{Outcome, next, fault, answered}
use Rattle.text.specs.declared.Counts.{Counts}
use Rattle.text.specs.declared.TextFault.{TextFault}

-- all that a text adds, or its first fault with the line's number and the place in the line
pub data Read : Type 0 where
  fine : List Event → Read
  refused : Fault → (line place : ℕ) → Read

-- the end of the text inside a list: "20 points .. at the end of the text one past its last line", after so many lines, the last one so long
abbrev pub finished : Reader → (number long : ℕ) → Read
finished R.Text number long = fine []
finished R.Data number long = fine []
finished (R.List k) number long = refused F.OpenList number long

-- what a line adds, before what the lines after it add
abbrev pub preceded : List Event → Read → Read
preceded es (fine fs) = fine (es ++ fs)
preceded es (refused q n k) = refused q n k

-- the outcome of line `number`, and the reading of the lines after it
abbrev pub continued : Outcome → (number : ℕ) → (Reader → Read) → Read
continued (next r es) number more = preceded es (more r)
continued (fault q k) number more = refused q number k

unfoldable pub read_from : Reader → (number long : ℕ) → List (List ℕ) → Read
read_from r number long [] = finished r number long
read_from r number long (l ∷ ls) = continued (answered r l) (number + 1) (λ s. read_from s (number + 1) (length l) ls)

-- "A text opens in a text section."
unfoldable pub read_text : List ℕ → Read
unfolding read_from
read_text text = read_from R.Text 0 0 (lines text)

-- the answer as the code gives it: how many statements, values and bytes in strings, or the fault, its line and its place
abbrev pub in_line : (line : ℕ) → LineFault → TextFault
in_line n f = record { fault = f.fault; line = n; place = f.place }

abbrev pub tallied : Read → Result Counts TextFault
tallied (fine es) = Ok (record { statements = openings es; values = givings es; bytes = bytes_given es })
tallied (refused q n k) = Err (in_line n (faulty q k))

-- what a text adds, if the rules admit it
abbrev pub added : Read → List Event
added (fine es) = es
added (refused q line place) = []
