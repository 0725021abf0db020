-- `order` meets its contract: before each turn the names from place i on are in order. Assumes nothing.
use mathlib.Core.Path.{◌≡◌}
use mathlib.Core.List.{List}
use Prim.Native.Nat.{ℕ, ◌+◌, ◌≤◌}
use lib.ListN.{length, drop}
use Rattle.order.specs.Places.{Places, name_count, names_at, cut_names, ordered}
use Rattle.order.proofs.order.Given as goal

-- the names from place i on are in order
pub record Sorted (ws : List ℕ) (held i : ℕ) (ps : List ℕ) : Type 0 where
  pub places : Places ws held ps
  pub few : i + held ≤ name_count ws
  pub names : names_at ws held ps ≡ ordered (drop i (cut_names (name_count ws) ws))

abbrev pub invariant-loop-place : goal.invariant-loop-place
invariant-loop-place l = (Sorted l.names l.held l.place l.places) × (length l.places ≡ length l.initial.places)
