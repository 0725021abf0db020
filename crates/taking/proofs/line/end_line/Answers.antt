-- `end_line` meets its contract: what is kept is the line that is completed. Assumes nothing.
use native.Mathlib.Omega.{arith}
use Rattle.taking.proofs.Lines.{ends-line}
use Rattle.taking.proofs.line.end_line.Goals as goal

pub returns : goal.returns
returns c =
    ends-line c.args.pool.now c.args.b (omega arith) c.requires.1 _ _ c.more-number.result c.complete_line.result c.more-number.ensures
    _ c.line.ensures c.complete_line.ensures
