-- `write_doubled` meets its contract: after i turns the first i bytes are written. Assumes nothing.
use mathlib.Core.List.{List}
use Prim.Native.Nat.{ℕ}
use lib.ListN.{take}
use Rattle.value.specs.Strings.{doubled}
use Rattle.words.specs.Over.{part}
use Rattle.words.specs.Placed.{Writes}
use Rattle.octets.specs.Octets.{octets}
use Rattle.pen.proofs.quoted.write_doubled.Given as goal

-- the first i of n bytes, doubled
abbrev pub firsts : (ws : List ℕ) (from n i : ℕ) → List ℕ
firsts ws from n i = doubled (take i (part from n (octets ws)))

abbrev pub invariant-loop-i : goal.invariant-loop-i
invariant-loop-i l = Writes l.at (firsts l.words l.from l.n l.i) l.initial.out l.end l.out
