-- `all_named` meets its contract: the names left are legal exactly when all are, since each one passed is. Assumes nothing.
use mathlib.Core.Path.{◌≡◌}
use Prim.Native.Nat.{◌*◌}
use lib.ListN.{drop}
use Rattle.names.specs.Names.{NAMEWORDS}
use Rattle.layout.specs.Damage.{all_named}
use Rattle.layout.proofs.check.all_named.Given as goal

abbrev pub invariant-loop-i : goal.invariant-loop-i
invariant-loop-i l = all_named (drop l.i l.heads) (drop (NAMEWORDS * l.i) l.names) ≡ all_named l.heads l.names
