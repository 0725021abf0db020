-- The bytes spread from a name's four words begin with the name, and it is legal. Assumes nothing.
use mathlib.Core.Path.{◌≡◌, sym, ap, ◌∙◌}
use mathlib.Core.Bool.{true}
use mathlib.Core.List.{List}
use Prim.Native.Nat.{ℕ}
use native.Mathlib.Omega.{arith}
use lib.ListN.{length, replicate}
use lib.Seq.{take_all}
use Rattle.plain.specs.Runs.{run}
use Rattle.value.specs.Classes.{name_byte}
use Rattle.words.specs.Over.{over}
use Rattle.words.proofs.Over.{length_over, part-over}
use Rattle.octets.specs.Octets.{octets}
use Rattle.names.specs.Names.{legal, unpacked}
use Rattle.order.proofs.Packed.{length-bytes}
use Rattle.shown.specs.Shows.{Holding}

-- as many bytes written as there are leave none of the first
over-whole : (xs m : List ℕ) → length xs ≡ length m → over 0 xs m ≡ xs
over-whole xs m h = sym (take_all (length xs) (over 0 xs m) (omega (arith, length_over 0 xs m))) ∙ part-over 0 xs m (omega arith)

module _ (ws : List ℕ) (H : Holding ws) (room name : List ℕ) (r : room ≡ over 0 (octets ws) (replicate 32 0)) (n : name ≡ run name_byte room) where
  pub name-is : name ≡ unpacked ws
  unfolding unpacked
  name-is = n ∙ ap (run name_byte) (r ∙ over-whole (octets ws) (replicate 32 0) (omega (arith, length-bytes ws, H.four)))

  pub name-legal : legal name ≡ true
  name-legal = ap legal name-is ∙ H.name
