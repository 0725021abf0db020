-- `show_variable` meets its contract: the bytes spread from the words begin with the name, and the walk finds where its values begin.
-- Assumes nothing.
use mathlib.Core.Path.{◌≡◌, sym, ap, subst}
use mathlib.Core.List.{List}
use Prim.Native.Nat.{ℕ}
use lib.ListN.{replicate}
use Rattle.plain.specs.Runs.{run}
use Rattle.value.specs.Classes.{name_byte}
use Rattle.words.specs.Over.{over}
use Rattle.words.specs.Placed.{Room, Writes}
use Rattle.words.proofs.Placed.{writes-same}
use Rattle.octets.specs.Octets.{octets}
use Rattle.names.specs.Names.{unpacked}
use Rattle.variables.specs.Walk.{Begins}
use Rattle.variables.specs.declared.walk.Start.{Start}
use Rattle.shown.specs.Shows.{lines, Telling, Passing}
use Rattle.shown.proofs.Unpacked.{name-is, name-legal}
use Rattle.shown.proofs.values.show_variable.Goals as goal

module _ (m ws : List ℕ) (at : ℕ) (out : List ℕ) (T : Telling m ws at out)
    (room name : List ℕ) (r : room ≡ over 0 (octets ws) (replicate 32 0)) (n : name ≡ run name_byte room) where
  lines_are : lines m name ≡ lines m (unpacked ws)
  lines_are = ap (lines m) (name-is ws T.named room name r n)

  passing : (start : Start) → Begins name m start.statement start.value start.count start.strings → Passing m name start at out
  passing start B =
      record {
        begins = B;
        room = subst (λ (l : List ℕ). Room at l out) (sym lines_are) T.room;
      }

  told : {s : ℕ} {o : List ℕ} → Writes at (lines m name) out s o → Writes at (lines m (unpacked ws)) out s o
  told = writes-same lines_are

pub invariant_of-name : goal.invariant_of-name
invariant_of-name c = record { ruled = name-legal _ c.requires.named _ _ c.spread.ensures c.run.ensures }

pub show_statements-requires : goal.show_statements-requires
show_statements-requires c =
    passing _ _ _ _ c.requires _ _ c.spread.ensures c.run.ensures _ c.walk-start.ensures

pub returns : goal.returns
returns c =
    told _ _ _ _ c.requires _ _ c.spread.ensures c.run.ensures c.show_statements.ensures
