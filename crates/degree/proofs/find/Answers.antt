-- `find` meets its contract: its test is that of `degree_where`. Assumes nothing.
use Rattle.degree.specs.Degree.{degree_where}
use Rattle.degree.proofs.find.Goals as goal

pub returns-then-wanted : goal.returns-then-wanted
unfolding degree_where
returns-then-wanted c = rw c.if-wanted.true c.read.ensures

pub returns-else-wanted : goal.returns-else-wanted
unfolding degree_where
returns-else-wanted c = rw c.if-wanted.false
