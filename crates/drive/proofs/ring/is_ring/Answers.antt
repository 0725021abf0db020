-- `is_ring` meets its contract: its range is that of `ringed`. Assumes nothing.
use native.Mathlib.Omega.{arith}
use Rattle.std.proofs.lemmas.Bool.Decides.{nat_tests}
use Rattle.drive.proofs.ring.is_ring.Goals as goal

pub returns : goal.returns
returns c =
    let r = c.new.ensures in
    let v = rw (r.start, r.end, r.exhausted) at c.contains.ensures.value in
    grind (arith, nat_tests)
