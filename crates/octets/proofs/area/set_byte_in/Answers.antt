-- `set_byte_in` meets its contract: the area is lent, a byte of it is written, and it is put back. Assumes nothing.
use mathlib.Core.List.{[], ◌∷◌}
use Rattle.octets.proofs.Areas.{lent-inked}
use Rattle.octets.proofs.area.set_byte_in.Goals as goal

pub returns : goal.returns
returns c =
    let a = c.args in
    lent-inked a.area a.n a.i (a.b ∷ []) a.m.now c.set_byte.new.ws c.requires c.set_byte.ensures
