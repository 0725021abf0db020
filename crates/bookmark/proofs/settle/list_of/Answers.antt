-- `list_of` meets its contract: each way out is one of its cases. Assumes nothing.
use Rattle.bookmark.proofs.settle.list_of.Goals as goal

pub returns-then-not-placeholder : goal.returns-then-not-placeholder
returns-then-not-placeholder c = simp (c.if-strings.false, c.if-not-placeholder.true)

pub returns-in-Empty : goal.returns-in-Empty
returns-in-Empty c = simp (c.if-strings.false, c.if-not-placeholder.false, c.in-Empty.is)

pub returns-in-Numbers : goal.returns-in-Numbers
returns-in-Numbers c = simp (c.if-strings.false, c.if-not-placeholder.false, c.in-Numbers.is)

pub returns-in-Strings : goal.returns-in-Strings
returns-in-Strings c = simp (c.if-strings.false, c.if-not-placeholder.false, c.in-Strings.is)
