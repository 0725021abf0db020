-- "Then a number, or `(` with at least one number and `)`.", and "A list is all numbers or all strings.": a line's values from a place on.
-- Definitions only.
use Rattle.std.specs.Prelude.{ℕ, zero, suc, ◌+◌, Bool, true, not, List, [], ◌∷◌, Option, Some, None, Result, Ok, Err, ltb, length, if◌then◌else◌}
use Rattle.plain.specs.Bytes.{QUOTE, OPEN, CLOSE}
use Rattle.plain.specs.Runs.{past}
use Rattle.value.specs.Classes.{blank, separator, stands}
use Rattle.value.specs.Faults.{faulty}
use Rattle.value.specs.Value.{Value, bytes_in, value_of, end_of, value_at}
use Rattle.value.specs.declared.faults.Fault.{Fault}
use Rattle.value.specs.declared.faults.Fault.TheVariants as F
use Rattle.value.specs.declared.faults.LineFault.{LineFault}
use Rattle.value.specs.declared.Word.{Word}
use Rattle.value.specs.declared.Word.TheVariants as W
use Rattle.statement.specs.declared.values.Counted.{Counted}
use Rattle.statement.specs.declared.values.Item.{Item}
use Rattle.statement.specs.declared.values.Item.TheVariants as I
use Rattle.statement.specs.declared.values.Kind.{Kind}
use Rattle.statement.specs.declared.values.Kind.TheVariants as K
use Rattle.statement.specs.declared.values.Reader.{Reader}
use Rattle.statement.specs.declared.values.Reader.TheVariants as R
use Rattle.statement.specs.declared.values.Values.{Values}

-- ---- the values of a list

-- how many bytes some values have together
abbrev pub bytes_in_all : List Value → ℕ
bytes_in_all [] = 0
bytes_in_all (v ∷ vs) = bytes_in v + bytes_in_all vs

-- "A list is all numbers or all strings": whether a list that has such values takes one that a quote opens, or that none opens
abbrev pub admits : Kind → (quote : Bool) → Bool
admits K.Empty quote = true
admits K.Numbers quote = not quote
admits K.Strings quote = quote

-- the kind of a list that has such a value
abbrev pub kind_of : Word → Kind
kind_of (W.Number x k) = K.Numbers
kind_of (W.String i n k) = K.Strings

-- "19 BAD VALUE (.. a second kind at its first value, and there before 6)"
unfoldable pub list_value : Kind → List ℕ → ℕ → Result Word LineFault
list_value kind line i = if admits kind (stands QUOTE line i) then value_at line i else Err (faulty F.BadValue i)

abbrev pub as_item : Result Word LineFault → Result Item LineFault
as_item (Ok w) = Ok (I.Value w)
as_item (Err f) = Err f

-- what a list has at place i: the line's end, its `)`, or a value. A second `(` is no value, and so 19 where it stands
abbrev pub item_at : Kind → List ℕ → ℕ → Result Item LineFault
item_at kind line i = if ltb i (length line) then (if stands CLOSE line i then Ok (I.Close i) else as_item (list_value kind line i)) else Ok I.End

-- what a list has next, after separators
unfoldable pub item : Kind → List ℕ → ℕ → Result Item LineFault
item kind line i = item_at kind line (past separator line i)

-- a list's values in a line, what the list has after them, and what ended them: the line's end, the `)`, or a fault
pub record Items : Type 0 where
  pub kind : Kind
  pub values : List Value
  pub stop : Result (Option ℕ) LineFault

abbrev pub ended : Kind → Result (Option ℕ) LineFault → Items
ended k s = record { kind = k; values = []; stop = s }

abbrev pub with_value : Value → Items → Items
with_value v is = record { kind = is.kind; values = v ∷ is.values; stop = is.stop }

abbrev pub further : Kind → List ℕ → Result Item LineFault → (Kind → ℕ → Items) → Items
further kind line (Err f) more = ended kind (Err f)
further kind line (Ok I.End) more = ended kind (Ok None)
further kind line (Ok (I.Close k)) more = ended kind (Ok (Some k))
further kind line (Ok (I.Value w)) more = with_value (value_of line w) (more (kind_of w) (end_of w))

-- the items from place i on, of which there are no more than the line has bytes
unfoldable pub items_up_to : (most : ℕ) → List ℕ → Kind → ℕ → Items
items_up_to zero line kind i = ended kind (Ok None)
items_up_to (suc n) line kind i = further kind line (item kind line i) (items_up_to n line)

abbrev pub items : Kind → List ℕ → ℕ → Items
items kind line i = items_up_to (length line) line kind i

-- the same as the code gives it: how many values, and how many bytes in strings
abbrev pub tally : Items → Counted
tally is = record { kind = is.kind; given = length is.values; bytes = bytes_in_all is.values; stop = is.stop }

-- ---- what a statement's values leave behind

-- the values read, and the reader after them; or a fault
pub data Given : Type 0 where
  given : Reader → List Value → Given
  wrong : Fault → (place : ℕ) → Given

-- "After the statement only blanks follow on its line.", and "21 to the first stray byte"
unfoldable pub rest : List Value → List ℕ → ℕ → Given
rest vs line i = if ltb (past blank line i) (length line) then wrong F.RestOfLine (past blank line i) else given R.Data vs

-- a list's `)` at place k: "20 points to the `)` of an empty list"
abbrev pub shut : Kind → List Value → List ℕ → ℕ → Given
shut K.Empty vs line k = wrong F.OpenList k
shut K.Numbers vs line k = rest vs line (k + 1)
shut K.Strings vs line k = rest vs line (k + 1)

-- by what ended a list's values in this line
abbrev pub list_end : Kind → List Value → List ℕ → Result (Option ℕ) LineFault → Given
list_end kind vs line (Ok None) = given (R.List kind) vs
list_end kind vs line (Ok (Some k)) = shut kind vs line k
list_end kind vs line (Err f) = wrong f.fault f.place

-- a list that is open at place i, `kind` telling what it has on earlier lines
unfoldable pub listed : Kind → List ℕ → ℕ → Given
listed kind line i = list_end (items kind line i).kind (items kind line i).values line (items kind line i).stop

-- one value alone, and then the rest of the line
abbrev pub alone : List ℕ → Result Word LineFault → Given
alone line (Ok w) = rest (value_of line w ∷ []) line (end_of w)
alone line (Err f) = wrong f.fault f.place

-- after the operator: a list, or a value
unfoldable pub given_at : List ℕ → ℕ → Given
given_at line i = if stands OPEN line i then listed K.Empty line (i + 1) else alone line (value_at line i)

-- the same as the code gives it: how many values, and how many bytes in strings
abbrev pub taken : Given → Result Values LineFault
taken (given r vs) = Ok (record { reader = r; given = length vs; bytes = bytes_in_all vs })
taken (wrong q k) = Err (faulty q k)
