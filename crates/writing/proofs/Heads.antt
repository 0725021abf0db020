-- The name of a statement's head stands in its line. Assumes nothing.
use Prim.Native.Nat.{ℕ, ◌+◌, ◌-◌, ◌≤◌, ◌<◌}
use native.Mathlib.Omega.{arith}
use mathlib.Core.Path.{◌≡◌, refl}
use mathlib.Core.Bool.{Bool, true, false, ◌&&◌}
use mathlib.Core.List.{List}
use borrow.Author.Tests.{ltb-true}
use lib.Dec.{ltb}
use lib.ListN.{length}
use Rattle.plain.specs.Bytes.{PLUS, EQUALS, within}
use Rattle.std.specs.Prelude.{Option, Some, None, Result, Ok, Err, if◌then◌else◌}
use Rattle.plain.specs.Runs.{past}
use Rattle.plain.proofs.Places.{past_after, past-within}
use Rattle.value.specs.Classes.{blank, name_byte, stands}
use Rattle.statement.specs.Head.{NAME, named, head_operated, head_named, opening, head_at, head}
use Rattle.value.specs.declared.faults.Fault.TheVariants as F
use Rattle.value.specs.Faults.{faulty}
use Rattle.value.specs.declared.faults.LineFault.{LineFault}
use Rattle.statement.specs.declared.head.Named.{Named}
use Rattle.statement.specs.declared.head.Operator.TheVariants as O

-- from n to e
pub record Stands (line : List ℕ) (n e : ℕ) : Type 0 where
  pub starts : n ≤ e
  pub ends : e ≤ length line

-- the name of a head, if it has one
abbrev Within : List ℕ → Result (Option Named) LineFault → Type 0
Within line (Ok None) = Unit
Within line (Ok (Some h)) = Stands line h.start h.end
Within line (Err f) = Unit

operated-stands : (line : List ℕ) (n e i : ℕ) → Stands line n e → Within line (opening (head_operated line n e i))
operated-stands line n e i p = by (stands EQUALS line i) (stands PLUS line i && stands EQUALS line (i + 1))
  where
    by : (s t : Bool)
        → Within line (opening (if s then Ok (named n e O.Direct (past blank line (i + 1))) else (if t then Ok (named n e O.Append (past blank line (i + 2))) else Err (faulty F.NoOperator i))))
    by true t = p
    by false true = p
    by false false = tt

named-stands : (line : List ℕ) (n e : ℕ) → Stands line n e → Within line (opening (head_named line n e))
named-stands line n e p = by (within 1 NAME (e - n))
  where
    by : (t : Bool) → Within line (opening (if t then head_operated line n e (past blank line e) else Err (faulty F.BadName n)))
    by true = operated-stands line n e (past blank line e) p
    by false = tt

at-stands : (line : List ℕ) (n : ℕ) → Within line (head_at line n)
at-stands line n = by (ltb n (length line)) refl
  where
    by : (t : Bool) → ltb n (length line) ≡ t → Within line (if t then opening (head_named line n (past name_byte line n)) else Ok None)
    by true w =
        let h : n < length line = ltb-true n (length line) w in
        named-stands line n (past name_byte line n) (record { starts = past_after name_byte line n; ends = past-within name_byte line n (omega arith) })
    by false w = tt

pub head-stands : (line : List ℕ) (h : Named) → head line ≡ Ok (Some h) → Stands line h.start h.end
unfolding head
head-stands line h q = rw q at (at-stands line (past blank line 0))
