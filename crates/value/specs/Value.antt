-- One value at a place of a line: a number, or a string in quotes. Definitions only.
use Rattle.std.specs.Prelude.{ℕ, List, Result, Ok, Err, Float, length, drop, if◌then◌else◌}
use Rattle.plain.specs.Bytes.{QUOTE}
use Rattle.plain.specs.Runs.{run, past}
use Rattle.decimal.specs.Class.{reading}
use Rattle.decimal.specs.declared.Reading.{Reading}
use Rattle.decimal.specs.declared.Reading.TheVariants as D
use Rattle.value.specs.Classes.{value_byte, stands}
use Rattle.value.specs.Faults.{faulty}
use Rattle.value.specs.Strings.{undoubled, string_at}
use Rattle.value.specs.declared.Word.{Word}
use Rattle.value.specs.declared.Word.TheVariants as W
use Rattle.value.specs.declared.faults.Fault.TheVariants as F
use Rattle.value.specs.declared.faults.LineFault.{LineFault}

pub data Value : Type 0 where
  number : (x : Float) → Value
  string : (bytes : List ℕ) → Value

-- how many bytes a value has: a number has none
abbrev pub bytes_in : Value → ℕ
bytes_in (number x) = 0
bytes_in (string s) = length s

-- a value that is found: the value, the place after it, and how many bytes it has
abbrev pub value_of : List ℕ → Word → Value
value_of line (W.Number x k) = number x
value_of line (W.String i n k) = string (undoubled (drop i line))

abbrev pub end_of : Word → ℕ
end_of (W.Number x k) = k
end_of (W.String i n k) = k

abbrev pub long_of : Word → ℕ
long_of (W.Number x k) = 0
long_of (W.String i n k) = n

-- what a value's bytes from i to `end` are to the line: the number and the place after it, or a fault where they start
abbrev pub told : Reading → (i end : ℕ) → Result Word LineFault
told (D.Number x) i end = Ok (W.Number x end)
told (D.BadForm r) i end = Err (faulty F.BadValue i)
told (D.OutsideClass r) i end = Err (faulty F.OutsideClass i)

-- "A value is a maximal run without blank, comma or bracket."
unfoldable pub number_at : List ℕ → ℕ → Result Word LineFault
number_at line i = told (reading (run value_byte (drop i line))) i (past value_byte line i)

-- a value is a string just where its first byte is a quote
unfoldable pub value_at : List ℕ → ℕ → Result Word LineFault
value_at line i = if stands QUOTE line i then string_at line i else number_at line i
