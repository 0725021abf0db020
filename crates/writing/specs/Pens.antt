-- What the code of a load's second pass is given, and what it leaves. Definitions only.
use Rattle.std.specs.Prelude.{ℕ, ◌≤◌, ◌<◌, ◌≡◌, List, Option, Some, None, Result, Ok, Err, T, not, length}
use Rattle.std.specs.Float.Ieee.{is_nan}
use Rattle.value.specs.Value.{Value}
use Rattle.statement.specs.Values.{items, tally, Given, given}
use Rattle.statement.specs.Statements.{Event, openings, givings, bytes_given}
use Rattle.text.specs.Line.{Outcome, next}
use Rattle.text.specs.Text.{fine, read_text}
use Rattle.statement.specs.declared.values.Reader.{Reader}
use Rattle.statement.specs.declared.values.Reader.TheVariants as R
use Rattle.statement.specs.declared.values.Kind.{Kind}
use Rattle.value.specs.declared.faults.LineFault.{LineFault}
use Rattle.value.specs.declared.Word.{Word}
use Rattle.value.specs.declared.Word.TheVariants as W
use Rattle.words.specs.Halves.{upper}
use Rattle.layout.specs.Limits.{WORDS, BYTES_AT, BYTES, LONGEST_LOAD}
use Rattle.page.specs.Writing.{Page, page, stored_all, given_on, written_on}
use Rattle.page.specs.Pens.{Room, Quoted}
use Rattle.page.specs.declared.pen.Pen.{Pen}
use Rattle.writing.specs.declared.give.Stored.{Stored}
use Rattle.writing.specs.declared.give.Turn.{Turn}

-- ---- what it is given

-- the values of a line can be stored
pub record Storable (pen : Pen) (line : List ℕ) : Type 0 where
  pub values : pen.values ≤ BYTES_AT
  pub bytes : pen.bytes ≤ BYTES
  pub long : length line ≤ LONGEST_LOAD

-- a value that a line has: a number is no NaN, and a string opens in the line
abbrev pub Found : List ℕ → Word → Type 0
Found line (W.Number x k) = T (not (is_nan x))
Found line (W.String i n k) = Quoted line i n

-- a line of a text is written, whose statement is opened already
pub record Ready (pen : Pen) (line : List ℕ) : Type 0 where
  pub some : 1 ≤ pen.heads
  pub head : upper pen.head ≤ 3
  pub storable : Storable pen line

-- a line of a text is written, that may open a statement
pub record Roomy (pen : Pen) (line : List ℕ) : Type 0 where
  pub ready : Ready pen line
  pub apart : pen.heads < pen.values
  pub names : pen.names ≤ WORDS

-- a text is written that the rules admit, with a pen that has room for it
pub record Admits (text : List ℕ) (pen : Pen) : Type 0 where
  pub events : List Event
  pub reads : read_text text ≡ fine events
  pub long : length text ≤ LONGEST_LOAD
  pub room : Room pen (openings events) (givings events) (bytes_given events)

-- ---- what it leaves

-- the pen after a list's values in a line, and these counted
abbrev pub stopped : Pen → Kind → (given bytes : ℕ) → Result (Option ℕ) LineFault → Stored
stopped pen kind n b stop = record { pen = pen; counted = record { kind = kind; given = n; bytes = b; stop = stop } }

-- a list's values from a place of a line on are stored, and counted
pub record Stores (kind : Kind) (line : List ℕ) (from : ℕ) (before : Page) (r : Stored) (after : List ℕ) : Type 0 where
  pub count : r.counted ≡ tally (items kind line from)
  pub left : page after r.pen ≡ stored_all (items kind line from).values before

-- the reader after the values that a list has in a line, by what it has then and by what ended them
abbrev pub after_list : Kind → Result (Option ℕ) LineFault → Reader
after_list kind (Ok None) = R.List kind
after_list kind (Ok (Some k)) = R.Data
after_list kind (Err f) = R.Data

-- a line leaves this page, and this reader
pub record Turns (p : Page) (s : Reader) (after : List ℕ) (r : Turn) : Type 0 where
  pub left : page after r.pen ≡ p
  pub reader : r.reader ≡ s

-- a line with this outcome, if it is admitted, is written as its events
abbrev pub Writes : Outcome → (before : Page) → (after : List ℕ) → Turn → Type 0
Writes o p after r = (s : Reader) (es : List Event) → o ≡ next s es → Turns (written_on es p) s after r

-- values that are given, if they are admitted, are written
abbrev pub Gives : Given → (before : Page) → (after : List ℕ) → Turn → Type 0
Gives g p after r = (s : Reader) (vs : List Value) → g ≡ given s vs → Turns (given_on vs p) s after r
