-- `admit` meets its contract: each way out is the arm that `admitted` picks by the same tests. Assumes nothing.
use lib.Ieee.{of_bits, round}
use Rattle.plain.specs.Doubles.{printed}
use Rattle.globe.proofs.radii.admit.Goals as goal
use Rattle.globe.proofs.radii.admit.Goals.{else-axes-via-then-axes+then-axes-2+else-axes-3, else-axes-via-then-axes+else-axes-2, else-axes-via-else-axes}

pub returns-then-axes-3 : goal.returns-then-axes-3
unfolding printed round of_bits
returns-then-axes-3 c = simp (c.if-axes.true, c.if-axes-2.true, c.if-axes-3.true)

pub returns-else-axes : goal.returns-else-axes
unfolding printed round of_bits
returns-else-axes c =
    elim c.else-axes.branch [
      | else-axes-via-then-axes+then-axes-2+else-axes-3 w ↦ simp (w.if-axes.true, w.if-axes-2.true, w.if-axes-3.false)
      | else-axes-via-then-axes+else-axes-2 w ↦ simp (w.if-axes.true, w.if-axes-2.false)
      | else-axes-via-else-axes w ↦ simp w.if-axes.false
    ]
