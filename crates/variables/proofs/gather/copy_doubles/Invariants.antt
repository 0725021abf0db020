-- `copy_doubles` meets its contract: one double more is written each turn, and bits of a size below 2^200 are no NaN's. Assumes nothing.
use Prim.Native.Nat.{◌≤◌}
use mathlib.Core.Path.{◌≡◌}
use mathlib.Core.List.{map}
use lib.Ieee.{of_bits, binary64}
use lib.ListN.{length, take}
use Rattle.words.specs.Over.{over}
use Rattle.variables.proofs.gather.copy_doubles.Given as goal

abbrev pub invariant-loop-j : goal.invariant-loop-j
invariant-loop-j l = (l.j ≤ length l.bits) × (l.out ≡ over l.at (map (of_bits binary64) (take l.j l.bits)) l.initial.out) × (length l.out ≡ length l.initial.out)
