-- "6 and 19 to the value's first byte or the comma or bracket in its place": a value that is a fault is one where it was looked for.
-- Assumes nothing.
use Prim.Native.Nat.{ℕ, ◌+◌}
use mathlib.Core.Path.{◌≡◌, refl}
use mathlib.Core.Bool.{Bool, true, false, ◌&&◌}
use mathlib.Core.List.{List}
use lib.Dec.{leb}
use lib.ListN.{length, drop}
use Rattle.plain.specs.Bytes.{QUOTE}
use Rattle.std.specs.Prelude.{Result, Ok, Err, if◌then◌else◌}
use Rattle.plain.specs.Runs.{run, past}
use Rattle.decimal.specs.Class.{reading}
use Rattle.decimal.specs.declared.Reading.{Reading}
use Rattle.decimal.specs.declared.Reading.TheVariants as D
use Rattle.value.specs.Classes.{value_byte, stands}
use Rattle.value.specs.Faults.{faulty}
use Rattle.value.specs.declared.faults.LineFault.{LineFault}
use Rattle.value.specs.Strings.{STRING, Scanned, closed, unclosed, scanned, followed, enclosed, closing, string_at}
use Rattle.value.specs.Value.{told, number_at, value_at}
use Rattle.value.specs.declared.faults.Fault.TheVariants as F
use Rattle.value.specs.declared.Word.{Word}
use Rattle.value.specs.declared.Word.TheVariants as W

-- no fault, or one at this place
abbrev pub FaultAt : ℕ → Result Word LineFault → Type 0
FaultAt i (Ok w) = Unit
FaultAt i (Err f) = f.place ≡ i

module _ (line : List ℕ) (i : ℕ) where
  string-starts : FaultAt i (string_at line i)
  unfolding string_at
  string-starts = by (scanned (drop (i + 1) line))
    where
      of : (t : Bool) (n end : ℕ) → FaultAt i (if t then Ok (W.String i n end) else Err (faulty F.BadValue i))
      of true n end = tt
      of false n end = refl

      by : (s : Scanned) → FaultAt i (enclosed line i (closing 0 (i + 1) s))
      by unclosed = refl
      by (closed bs m) = of (leb (0 + length bs) STRING && followed line (i + 1 + m)) (0 + length bs) (i + 1 + m)

  number-starts : FaultAt i (number_at line i)
  unfolding number_at
  number-starts = by (reading (run value_byte (drop i line)))
    where
      by : (v : Reading) → FaultAt i (told v i (past value_byte line i))
      by (D.Number x) = tt
      by (D.BadForm r) = refl
      by (D.OutsideClass r) = refl

  pub value-starts : FaultAt i (value_at line i)
  unfolding value_at
  value-starts = by (stands QUOTE line i)
    where
      by : (t : Bool) → FaultAt i (if t then string_at line i else number_at line i)
      by true = string-starts
      by false = number-starts
