-- `halved`, which calls itself, meets its contract: the remainder is the one by twice as much, or d less than that. Assumes nothing.
use native.Mathlib.Omega.{arith}
use Rattle.angle.proofs.Halving.{below, last, twice, same, less}
use Rattle.angle.proofs.remainder.+halved.Goals as goal

pub returns-then-x-d : goal.returns-then-x-d
returns-then-x-d t c = below _ _ c.args.k c.requires.0 c.well_formed.0.1 c.requires.1 c.requires.2 c.if-x-d.true

pub returns-then-k-eq-LAST : goal.returns-then-k-eq-LAST
returns-then-k-eq-LAST t c = last _ _ c.args.k c.requires.0 c.well_formed.0.1 c.requires.1 c.requires.2 c.if-k-eq-LAST.true c.if-x-d.false

pub halved-r-requires : goal.halved-r-requires
halved-r-requires t c =
    (omega (arith, c.requires.2, c.if-k-eq-LAST.false), (c.requires.0, twice c.args.x _ c.args.k c.requires.0 c.well_formed.0.1 c.requires.1 c.requires.2, omega (arith, c.requires.2, c.if-k-eq-LAST.false)))

pub returns-then-r-d : goal.returns-then-r-d
returns-then-r-d t c =
    same _ _ c.args.k c.requires.0 c.well_formed.0.1 c.requires.1 c.requires.2 _ (omega (arith, c.requires.2, c.if-k-eq-LAST.false)) c.halved-r.ensures c.if-r-d.true

pub returns : goal.returns
returns t c =
    less _ _ c.args.k c.requires.0 c.well_formed.0.1 c.requires.1 c.requires.2 _ (omega (arith, c.requires.2, c.if-k-eq-LAST.false)) c.halved-r.ensures c.if-r-d.false
