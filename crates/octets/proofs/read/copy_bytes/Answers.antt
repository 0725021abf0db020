-- `copy_bytes` meets its contract: after j turns the first j bytes are copied. Assumes nothing.
use mathlib.Core.Path.{◌≡◌, refl, sym, ap, ◌∙◌}
use mathlib.Core.List.{List}
use Prim.Native.Nat.{ℕ}
use native.Mathlib.Omega.{arith}
use lib.ListN.{set, length-set}
use Rattle.words.specs.Over.{over, part}
use Rattle.words.proofs.Over.{over-nil}
use Rattle.octets.specs.Octets.{octets}
use Rattle.octets.proofs.Inked.{copy-turn}
use Rattle.octets.proofs.read.copy_bytes.Goals as goal

pub loop-j-init : goal.loop-j-init
loop-j-init c = (sym (over-nil _ _), refl)

pub loop-j-preserved : goal.loop-j-preserved
loop-j-preserved c =
    let a = c.args in (
      ap (λ (x : List ℕ). set x c.loop-j.j c.byte_at.result) c.loop-j.invariant.0
          ∙ copy-turn a.from a.n c.loop-j.j a.ws.now a.out.now c.requires.fits c.loop-j-test.true c.byte_at.result c.byte_at.ensures,
      simp length-set c.loop-j.invariant.1,
    )

pub shape_of-out : goal.shape_of-out
shape_of-out c = c.loop-j.invariant.1

pub returns : goal.returns
returns c =
    let a = c.args in
    let e : c.loop-j.j ≡ a.n = omega arith in
    c.loop-j.invariant.0 ∙ ap (λ (i : ℕ). over 0 (part a.from i (octets a.ws.now)) a.out.now) e
