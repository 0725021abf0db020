-- `sine_cosine` meets its contract: each way out is the arm that `of_wrapped` picks by the same tests. Assumes nothing.
use mathlib.Core.Path.{ap}
use lib.Ieee.{of_bits, round}
use Rattle.plain.specs.Doubles.{printed}
use Rattle.angle.specs.Sine.{sine_cosine, of_wrapped, quarter, half, three_quarters}
use Rattle.angle.proofs.sine.sine_cosine.Goals as goal

pub returns-then-a : goal.returns-then-a
unfolding sine_cosine of_wrapped printed round of_bits
returns-then-a c = rw (← c.wrap-a.ensures, c.if-a.true) c.core.ensures

pub returns-then-a-2 : goal.returns-then-a-2
unfolding sine_cosine of_wrapped printed round of_bits
returns-then-a-2 c =
    rw (← c.wrap-a.ensures, c.if-a.false, c.if-a-2.true)
    (ap quarter c.core-p.ensures)

pub returns-then-a-3 : goal.returns-then-a-3
unfolding sine_cosine of_wrapped printed round of_bits
returns-then-a-3 c =
    rw (← c.wrap-a.ensures, c.if-a.false, c.if-a-2.false, c.if-a-3.true)
    (ap half c.core-p-then-a-3.ensures)

pub returns-then-a-4 : goal.returns-then-a-4
unfolding sine_cosine of_wrapped printed round of_bits
returns-then-a-4 c =
    rw (← c.wrap-a.ensures, c.if-a.false, c.if-a-2.false, c.if-a-3.false, c.if-a-4.true)
    (ap three_quarters c.core-p-then-a-4.ensures)

pub returns : goal.returns
unfolding sine_cosine of_wrapped printed round of_bits
returns c =
    rw (← c.wrap-a.ensures, c.if-a.false, c.if-a-2.false, c.if-a-3.false, c.if-a-4.false)
    c.core-2.ensures
