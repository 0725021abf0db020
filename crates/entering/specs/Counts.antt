-- What the complete lines of an open text count, as numbers: how much a line adds, and whether the pool has room for it. Definitions only.
use Rattle.std.specs.Prelude.{ℕ, ◌+◌, ◌-◌, ◌≤◌, Bool, ◌&&◌, List, Result, Ok, Err, leb}
use Rattle.statement.specs.declared.values.Kind.{Kind}
use Rattle.statement.specs.declared.values.Kind.TheVariants as K
use Rattle.statement.specs.declared.values.Reader.{Reader}
use Rattle.statement.specs.declared.values.Reader.TheVariants as R
use Rattle.value.specs.declared.faults.LineFault.{LineFault}
use Rattle.text.specs.Text.{in_line}
use Rattle.text.specs.declared.line.Step.{Step}
use Rattle.words.specs.Halves.{HALF}
use Rattle.layout.specs.Limits.{STATEMENTS, VALUES, BYTES}
use Rattle.layout.specs.Memory.{statement_count, value_count, byte_count}
use Rattle.bookmark.specs.declared.mark.Entered.{Entered}
use Rattle.bookmark.specs.declared.mark.Standing.{Standing}
use Rattle.bookmark.specs.declared.mark.Standing.TheVariants as S

-- a list without a value so far holds one place for them
abbrev pub places_of : Kind → ℕ
places_of K.Empty = 1
places_of K.Numbers = 0
places_of K.Strings = 0

abbrev pub places : Reader → ℕ
places R.Text = 0
places R.Data = 0
places (R.List k) = places_of k

-- nothing of the text is stored
abbrev pub emptied : Standing → Entered
emptied t = record { standing = t; statements = 0; values = 0; bytes = 0 }

-- the text as it is, standing otherwise
abbrev pub standing_as : Entered → Standing → Entered
standing_as e t = record { standing = t; statements = e.statements; values = e.values; bytes = e.bytes }

-- so many statements, values and bytes more are stored, between these readers
abbrev pub grown : Entered → (before after : Reader) → (opened given spelled : ℕ) → Entered
grown e r q n k b =
    record {
      standing = S.Storing q;
      statements = e.statements + n;
      values = e.values - places r + k + places q;
      bytes = e.bytes + b;
    }

-- what counting requires: few enough to be summed
pub record Few (e : Entered) : Type 0 where
  pub statements : e.statements ≤ HALF
  pub values : e.values ≤ HALF
  pub bytes : e.bytes ≤ HALF

pub record Countable (e : Entered) (before : Reader) (opened given spelled : ℕ) : Type 0 where
  pub few : Few (grown e before before opened given spelled)
  pub some : places before ≤ e.values

-- the pool has room for so much beside what it holds
abbrev pub room_for : List ℕ → Entered → Bool
room_for m e =
    leb (statement_count m + e.statements) STATEMENTS && leb (value_count m + e.values) VALUES && leb (byte_count m + e.bytes) BYTES

-- a line of a text that is not stored any more
abbrev pub read_on : Entered → (number : ℕ) → Result Step LineFault → Entered
read_on e number (Ok s) = standing_as e (S.Overflowed s.reader)
read_on e number (Err f) = emptied (S.Faulted (in_line number f))
