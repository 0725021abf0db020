-- `part_of` meets its contract: the part that is lent ends n words after it begins. Assumes nothing.
use mathlib.Core.Path.{◌≡◌}
use Prim.Native.Nat.{◌+◌, ◌-◌}
use native.Mathlib.Omega.{arith}
use Rattle.words.proofs.read.part_of.Goals as goal

pub returns : goal.returns
returns c =
    let a = c.args in
    let e : a.at + a.n - a.at ≡ a.n = omega arith in
    rw e
