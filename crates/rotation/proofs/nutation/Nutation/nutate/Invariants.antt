-- `nutate` meets its contract: the loop keeps the sums at term i, and every term has its angle. Assumes nothing.
use Rattle.rotation.proofs.Terms.{ReachedAll}
use Rattle.rotation.proofs.nutation.Nutation.nutate.Given as goal

abbrev pub invariant-loop-i : goal.invariant-loop-i
invariant-loop-i l = ReachedAll l.t l.fn.self.degree l.fn.self.angles.now l.fn.self.ra.now l.fn.self.dec.now l.fn.self.pm.now l.initial.sums l.sums l.i
