-- A head's name is 1 to 32 letters, digits or underscores. Assumes nothing.
use Prim.Native.Nat.{ℕ, ◌+◌, ◌-◌}
use native.Mathlib.Omega.{arith}
use mathlib.Core.Path.{◌≡◌, refl, ap, ◌∙◌}
use mathlib.Core.Bool.{Bool, true, false, ◌&&◌}
use mathlib.Core.List.{List}
use lib.Dec.{ltb}
use lib.ListN.{length, take, drop}
use Rattle.plain.specs.Bytes.{PLUS, EQUALS, within}
use Rattle.std.specs.Prelude.{Option, Some, None, Result, Ok, Err, if◌then◌else◌}
use Rattle.plain.specs.Runs.{past}
use Rattle.plain.proofs.Places.{take_past}
use Rattle.value.specs.Classes.{blank, name_byte, stands}
use Rattle.value.specs.Faults.{faulty}
use Rattle.value.specs.declared.faults.Fault.TheVariants as F
use Rattle.value.specs.declared.faults.LineFault.{LineFault}
use Rattle.statement.specs.Head.{NAME, named, head_operated, head_named, opening, head}
use Rattle.statement.specs.declared.head.Named.{Named}
use Rattle.statement.specs.declared.head.Operator.TheVariants as O
use Rattle.plain.proofs.Each.{Each}
use Rattle.plain.proofs.Runs.{run-each}

-- 1 to 32 letters, digits or underscores
pub record LegalName (name : List ℕ) : Type 0 where
  pub sized : within 1 NAME (length name) ≡ true
  pub bytes : Each (λ b. name_byte b ≡ true) name

-- the name of a head, if it has one
abbrev pub LegalHead : List ℕ → Result (Option Named) LineFault → Type 0
LegalHead line (Ok None) = Unit
LegalHead line (Ok (Some h)) = LegalName (take (h.end - h.start) (drop h.start line))
LegalHead line (Err f) = Unit

legal-operated : (line : List ℕ) (n e i : ℕ) → LegalName (take (e - n) (drop n line)) → LegalHead line (opening (head_operated line n e i))
legal-operated line n e i h = by (stands EQUALS line i) (stands PLUS line i && stands EQUALS line (i + 1))
  where
    by : (t u : Bool)
        → LegalHead line (opening (if t then Ok (named n e O.Direct (past blank line (i + 1))) else (if u then Ok (named n e O.Append (past blank line (i + 2))) else Err (faulty F.NoOperator i))))
    by true u = h
    by false true = h
    by false false = tt

name-long : (line : List ℕ) (n : ℕ) → length (take (past name_byte line n - n) (drop n line)) ≡ past name_byte line n - n
unfolding past
name-long line n = ap length (take_past name_byte line n) ∙ omega arith

legal-named : (line : List ℕ) (n : ℕ) → LegalHead line (opening (head_named line n (past name_byte line n)))
legal-named line n = by (within 1 NAME (e - n)) refl
  where
    e : ℕ
    e = past name_byte line n

    by : (t : Bool) → within 1 NAME (e - n) ≡ t → LegalHead line (opening (if t then head_operated line n e (past blank line e) else Err (faulty F.BadName n)))
    by true q = legal-operated line n e (past blank line e) (record { sized = rw (name-long line n) q; bytes = rw (take_past name_byte line n) (run-each name_byte (drop n line)) })
    by false q = tt

pub legal-head : (line : List ℕ) → LegalHead line (head line)
unfolding head
legal-head line = by (ltb (past blank line 0) (length line))
  where
    n : ℕ
    n = past blank line 0

    by : (t : Bool) → LegalHead line (if t then opening (head_named line n (past name_byte line n)) else Ok None)
    by true = legal-named line n
    by false = tt
