-- `shift` meets its contract: std copies within the list as `over` writes. Assumes nothing.
use mathlib.Core.Path.{◌≡◌, ◌∙◌}
use Prim.Native.Nat.{◌+◌, ◌-◌}
use native.Mathlib.Omega.{arith}
use lib.ListN.{drop, length-drop}
use Rattle.words.proofs.Over.{paste-over}
use Rattle.words.proofs.write.shift.Goals as goal

pub returns : goal.returns
returns c =
    let a = c.args in
    let e : a.from + a.n - a.from ≡ a.n = omega arith in
    c.copy_within.ensures.after ∙ rw e (paste-over a.to a.n (drop a.from a.m.now) a.m.now (omega (arith, length-drop a.from a.m.now)) (omega arith))
