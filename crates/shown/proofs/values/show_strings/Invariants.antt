-- `show_strings` meets its contract: after i turns the lines of the first i strings are written, and the next one's bytes begin where
-- theirs end. Assumes nothing.
use mathlib.Core.Path.{◌≡◌}
use mathlib.Core.List.{List, map}
use Prim.Native.Nat.{ℕ, ◌+◌}
use lib.ListN.{take, drop}
use Rattle.words.specs.Halves.{sum}
use Rattle.words.specs.Placed.{Writes}
use Rattle.octets.specs.Octets.{octets}
use Rattle.layout.specs.State.{flat}
use Rattle.layout.specs.Memory.{cut_strings}
use Rattle.variables.specs.Variables.{Datum, string}
use Rattle.shown.specs.Shown.{value_line}
use Rattle.shown.proofs.values.show_strings.Given as goal

-- the strings as values
abbrev pub held : (bytes : List ℕ) (from : ℕ) (lengths : List ℕ) → List Datum
held bytes from ls = map string (cut_strings ls (drop from (octets bytes)))

pub record Spelled (bytes : List ℕ) (from : ℕ) (ls : List ℕ) (at : ℕ) (out : List ℕ) (byte end i : ℕ) (now : List ℕ) : Type 0 where
  pub place : byte ≡ from + sum (take i ls)
  pub lines : Writes at (flat value_line (take i (held bytes from ls))) out end now

abbrev pub invariant-loop-length : goal.invariant-loop-length
invariant-loop-length l = Spelled l.bytes l.from l.lengths l.at l.initial.out l.byte l.end l.length-index l.out
