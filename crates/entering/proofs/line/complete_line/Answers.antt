-- `complete_line` meets its contract: what the line was seen to add is written. Assumes nothing.
use Rattle.entering.proofs.Looking.{written}
use Rattle.entering.proofs.line.complete_line.Goals as goal

pub returns-in-Written : goal.returns-in-Written
returns-in-Written c =
    let a = c.args in
    (written a.pool.now a.entered a.number a.line.now _ c.look.ensures _ _ _ c.in-Written.is).1 _ c.write_added.ensures
