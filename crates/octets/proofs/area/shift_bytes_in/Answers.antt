-- `shift_bytes_in` meets its contract: the area is lent, its bytes are moved, and it is put back. Assumes nothing.
use mathlib.Core.Path.{◌≡◌, ap, ◌∙◌}
use Prim.Native.Nat.{ℕ, ◌+◌, ◌-◌}
use native.Mathlib.Omega.{arith}
use Rattle.words.specs.Over.{part}
use Rattle.octets.specs.Octets.{octets, inked}
use Rattle.octets.proofs.Areas.{lent-inked}
use Rattle.octets.proofs.area.shift_bytes_in.Goals as goal

pub returns : goal.returns
returns c =
    let a = c.args in
    let k : a.area + a.n - a.area ≡ a.n = omega arith in
    lent-inked a.area a.n a.to (part a.from a.count (octets (part a.area a.n a.m.now))) a.m.now c.shift_bytes.new.ws c.requires.inside
    (c.shift_bytes.ensures ∙ ap (λ (i : ℕ). inked a.to (part a.from a.count (octets (part a.area i a.m.now))) (part a.area (a.area + a.n - a.area) a.m.now)) k)
