-- `find` meets its contract: the front of the bytes is the name, and what the walk finds under it is what is wanted. Assumes nothing.
use mathlib.Core.Path.{sym, ◌∙◌}
use native.Mathlib.Nat.{zero-add}
use native.Mathlib.Omega.{arith}
use lib.Seq.{length-take-le}
use Rattle.wanted.proofs.Spelling.{name-length}
use Rattle.wanted.proofs.Fronts.{front}
use Rattle.wanted.proofs.Found.{looks}
use Rattle.wanted.proofs.elements.find.Goals as goal

pub slice_bounds-name-end : goal.slice_bounds-name-end
slice_bounds-name-end c = omega (arith, c.spell-n.ensures.next, name-length c.args.code.number c.args.wanted)

pub slice_bounds-variable-end : goal.slice_bounds-variable-end
slice_bounds-variable-end c = sym (length-take-le c.spell-n.result c.spell-n.new.out (omega (arith, c.spell-n.ensures.next, name-length c.args.code.number c.args.wanted)))

pub returns : goal.returns
returns c =
    let s = c.spell-n in
    let a = c.args in
    let e = front _ _ _ s.result s.ensures.output (name-length a.code.number a.wanted) (s.ensures.next ∙ zero-add _) in
    rw e at (looks c.variable.ensures)
