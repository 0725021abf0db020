-- `bytes_fair` meets its contract: the bytes left are fair exactly when all are, since each byte passed is. Assumes nothing.
use mathlib.Core.Path.{◌≡◌}
use Prim.Native.Nat.{◌+◌, ◌-◌}
use Rattle.plain.specs.Bytes.{fair}
use Rattle.words.specs.Over.{part}
use Rattle.words.specs.Halves.{all}
use Rattle.octets.specs.Octets.{octets}
use Rattle.octets.proofs.fair.bytes_fair.Given as goal

abbrev pub invariant-loop-i : goal.invariant-loop-i
invariant-loop-i l = all fair (part (l.from + l.i) (l.n - l.i) (octets l.ws)) ≡ all fair (part l.from l.n (octets l.ws))
