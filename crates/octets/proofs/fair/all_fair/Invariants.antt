-- `all_fair` meets its contract: the bytes left are fair exactly when all are, since each word passed is. Assumes nothing.
use mathlib.Core.Path.{◌≡◌}
use Prim.Native.Nat.{◌-◌, ◌*◌}
use lib.ListN.{take}
use Rattle.plain.specs.Bytes.{fair}
use Rattle.words.specs.Over.{part}
use Rattle.words.specs.Halves.{all}
use Rattle.octets.specs.Octets.{octets}
use Rattle.octets.proofs.fair.all_fair.Given as goal

abbrev pub invariant-loop-k : goal.invariant-loop-k
invariant-loop-k l = all fair (part (8 * l.k) (l.n - 8 * l.k) (octets l.ws)) ≡ all fair (take l.n (octets l.ws))
