-- `append_code` meets its contract: each way out appends the figures that `numeral` picks by the same tests. Assumes nothing.
use borrow.Author.Tests.{lt-ltb, le-ltb}
use Rattle.words.proofs.Placed.{writes-same}
use Rattle.wanted.proofs.name.append_code.Goals as goal

pub returns-then-n-lt10 : goal.returns-then-n-lt10
returns-then-n-lt10 c =
    writes-same (rw (c.figure_of.ensures, lt-ltb _ _ c.if-n-lt10.true)) c.append.ensures

pub returns-then-n-lt100 : goal.returns-then-n-lt100
returns-then-n-lt100 c =
    writes-same (rw (c.figure_of-then-n-lt100.ensures, c.figure_of-then-n-lt100-2.ensures, le-ltb _ _ c.if-n-lt10.false, lt-ltb _ _ c.if-n-lt100.true))
    c.append-then-n-lt100.ensures

pub returns : goal.returns
returns c =
    writes-same
    (rw (c.figure_of-2.ensures, c.figure_of-3.ensures, c.figure_of-4.ensures, le-ltb _ _ c.if-n-lt10.false, le-ltb _ _ c.if-n-lt100.false))
    c.append-2.ensures
