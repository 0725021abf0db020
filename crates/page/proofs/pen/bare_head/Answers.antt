-- `bare_head` meets its contract: either operator's number above 2^32, and no values. Assumes nothing.
use Rattle.page.proofs.pen.bare_head.Goals as goal

pub returns-in-Direct : goal.returns-in-Direct
returns-in-Direct c = rw c.in-Direct.is

pub returns-in-Append : goal.returns-in-Append
returns-in-Append c = rw c.in-Append.is
