-- `foresee` meets its contract: what the line was seen to make of the text is what completing it makes. Assumes nothing.
use Rattle.entering.proofs.Looking.{foreseen-written}
use Rattle.entering.proofs.line.foresee.Goals as goal

pub returns-in-Written : goal.returns-in-Written
returns-in-Written c =
    let a = c.args in
    foreseen-written a.pool.now a.entered a.number a.line.now _ c.look.ensures _ _ _ c.in-Written.is
