-- `show_count` meets its contract: the bytes spread from the words begin with the name, and its values are counted on its line.
-- Assumes nothing.
use mathlib.Core.Path.{◌≡◌, sym, ap, ap₂, subst, ◌∙◌}
use mathlib.Core.List.{List}
use Prim.Native.Nat.{ℕ, ◌+◌, ◌≤◌}
use native.Mathlib.Omega.{arith}
use lib.ListN.{replicate}
use Rattle.plain.specs.Runs.{run}
use Rattle.value.specs.Classes.{name_byte}
use Rattle.words.specs.Over.{over}
use Rattle.words.specs.Placed.{Room, Writes}
use Rattle.words.proofs.Placed.{writes-same}
use Rattle.octets.specs.Octets.{octets}
use Rattle.names.specs.Names.{unpacked}
use Rattle.layout.specs.Limits.{VALUES}
use Rattle.variables.specs.Walk.{Begins}
use Rattle.pen.specs.Pen.{entry}
use Rattle.shown.specs.Shows.{size, Adding, Adds}
use Rattle.shown.specs.declared.Ends.{Ends}
use Rattle.shown.proofs.Unpacked.{name-is, name-legal}
use Rattle.shown.proofs.show_count.Goals as goal

module _ (m ws : List ℕ) (ends : Ends) (out : List ℕ) (A : Adding m ws ends out)
    (room name : List ℕ) (r : room ≡ over 0 (octets ws) (replicate 32 0)) (n : name ≡ run name_byte room)
    (s value count strings : ℕ) (B : Begins name m s value count strings) where
  counted : count ≡ size m (unpacked ws)
  counted = B.size ∙ ap (size m) (name-is ws A.named room name r n)

  entry-is : entry name count ≡ entry (unpacked ws) (size m (unpacked ws))
  entry-is = ap₂ entry (name-is ws A.named room name r n) counted

  room-line : Room ends.at (entry name count) out
  room-line = subst (λ (l : List ℕ). Room ends.at l out) (sym entry-is) A.room

  few : ends.total + count ≤ VALUES
  few = omega (arith, counted, A.few)

  added : (at : ℕ) (out' : List ℕ) → Writes ends.at (entry name count) out at out' → Adds m (unpacked ws) ends out (record { at = at; total = ends.total + count }) out'
  added at out' w = record { lines = writes-same entry-is w; total = ap (λ (k : ℕ). ends.total + k) counted }

pub invariant_of-name : goal.invariant_of-name
invariant_of-name c = record { ruled = name-legal _ c.requires.named _ _ c.spread.ensures c.run.ensures }

pub write_entry-at-requires : goal.write_entry-at-requires
write_entry-at-requires c =
    room-line _ _ _ _ c.requires _ _ c.spread.ensures c.run.ensures _ _ _ _ c.walk-count.ensures

pub overflow_add-result : goal.overflow_add-result
overflow_add-result c =
    let h = few _ _ _ _ c.requires _ _ c.spread.ensures c.run.ensures _ _ _ _ c.walk-count.ensures in
    omega arith

pub returns : goal.returns
returns c =
    added _ _ _ _ c.requires _ _ c.spread.ensures c.run.ensures _ _ _ _ c.walk-count.ensures _ _ c.write_entry-at.ensures
