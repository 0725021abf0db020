-- `polynomial_of` meets its contract: what was found over three zeros is the polynomial, or too few, too many, of strings or none. Assumes nothing.
use lib.Ieee.{of_bits, round}
use Rattle.plain.specs.Doubles.{printed}
use Rattle.wanted.proofs.Polynomials.{few}
use Rattle.wanted.proofs.elements.polynomial_of.Goals as goal

pub returns : goal.returns
unfolding printed round of_bits
returns c = few c.find.ensures _ c.in_ok-n.was c.if-n-eq0.false
