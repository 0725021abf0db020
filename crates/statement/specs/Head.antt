-- "Name: the longest run of letters, digits or underscores, 1 to 32 of them; case counts." "Then, blanks optional, `=` (direct) or `+=`
-- (append).": a statement up to its values. Definitions only.
use Rattle.std.specs.Prelude.{ℕ, ◌+◌, ◌-◌, ◌&&◌, List, Option, Some, None, Result, Ok, Err, ltb, length, if◌then◌else◌}
use Rattle.plain.specs.Bytes.{PLUS, EQUALS, within}
use Rattle.plain.specs.Runs.{past}
use Rattle.value.specs.Classes.{blank, name_byte, stands}
use Rattle.value.specs.Faults.{faulty}
use Rattle.value.specs.declared.faults.Fault.TheVariants as F
use Rattle.value.specs.declared.faults.LineFault.{LineFault}
use Rattle.statement.specs.declared.head.Named.{Named}
use Rattle.statement.specs.declared.head.Operator.{Operator}
use Rattle.statement.specs.declared.head.Operator.TheVariants as O

-- the longest name
abbrev pub NAME : ℕ
NAME = 32

abbrev pub named : (n e : ℕ) → Operator → (i : ℕ) → Named
named n e o i = record { start = n; end = e; operator = o; at = i }

-- a name from n to e, and its operator at i: "18 to the first non-blank after the name (18 and 19 one past the line if nothing is there)"
abbrev pub head_operated : List ℕ → (n e i : ℕ) → Result Named LineFault
head_operated line n e i =
    if stands EQUALS line i then Ok (named n e O.Direct (past blank line (i + 1)))
    else (if stands PLUS line i && stands EQUALS line (i + 1) then Ok (named n e O.Append (past blank line (i + 2)))
    else Err (faulty F.NoOperator i))

-- "Name: the longest run of letters, digits or underscores, 1 to 32 of them", and "17 to the statement's first byte"
abbrev pub head_named : List ℕ → (n e : ℕ) → Result Named LineFault
head_named line n e = if within 1 NAME (e - n) then head_operated line n e (past blank line e) else Err (faulty F.BadName n)

-- a line that opens a statement
abbrev pub opening : Result Named LineFault → Result (Option Named) LineFault
opening (Ok h) = Ok (Some h)
opening (Err f) = Err f

abbrev pub head_at : List ℕ → ℕ → Result (Option Named) LineFault
head_at line n = if ltb n (length line) then opening (head_named line n (past name_byte line n)) else Ok None

-- "One that is all blanks is skipped, and blanks may stand before a name."
unfoldable pub head : List ℕ → Result (Option Named) LineFault
head line = head_at line (past blank line 0)
