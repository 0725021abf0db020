-- `is_too_long` meets its contract: its two ways out are the two sides of the limit. Assumes nothing.
use native.Mathlib.Omega.{arith}
use borrow.Author.Tests.{lt-ltb, le-ltb}
use Rattle.text.specs.Lengths.{LONGEST_LINE}
use Rattle.text.proofs.lengths.is_too_long.Goals as goal

pub returns-then-long-gt-LONGEST_LINE : goal.returns-then-long-gt-LONGEST_LINE
returns-then-long-gt-LONGEST_LINE c = simp (lt-ltb LONGEST_LINE c.args.long (omega (arith, c.if-long-gt-LONGEST_LINE.true))) c.counts_as_data.ensures

pub returns : goal.returns
returns c = simp (le-ltb LONGEST_LINE c.args.long (omega (arith, c.if-long-gt-LONGEST_LINE.false)))
