-- `shift_bytes` meets its contract: after some turns the first j bytes are moved, and the next ones to read stand where they stood. Assumes nothing.
use mathlib.Core.Path.{◌≡◌, refl, sym, ap, ◌∙◌}
use mathlib.Core.List.{List}
use Prim.Native.Nat.{ℕ, ◌+◌}
use native.Mathlib.Omega.{arith}
use borrow.Author.Rules.{rules}
use Rattle.words.specs.Over.{part}
use Rattle.words.proofs.Each.{words_of}
use Rattle.octets.specs.Octets.{octets, inked}
use Rattle.octets.proofs.Inked.{inked-nil, shift-turn}
use Rattle.octets.proofs.write.shift_bytes.Goals as goal

pub loop-j-init : goal.loop-j-init
loop-j-init c = (search rules, sym (inked-nil _ c.args.ws.now (words_of c.args.ws.now (λ j. omega (arith, c.slice_known-1.given j)))), refl)

pub overflow_add-j : goal.overflow_add-j
overflow_add-j c = let m = c.move_some-j.ensures in omega arith

pub loop-j-smaller : goal.loop-j-smaller
loop-j-smaller c = let m = c.move_some-j.ensures in omega arith

pub loop-j-preserved : goal.loop-j-preserved
loop-j-preserved c =
    let a = c.args in
    let m = c.move_some-j.ensures in (
      omega arith,
      m.output
          ∙ ap (λ (x : List ℕ). inked (a.to + c.loop-j.j) (part (a.from + c.loop-j.j) c.move_some-j.result (octets x)) x) c.loop-j.invariant.1
          ∙ shift-turn a.to a.from a.n c.loop-j.j c.move_some-j.result a.ws.now c.requires.down c.requires.fits (omega arith),
      c.move_some-j.auto.ws ∙ c.loop-j.invariant.2,
    )

pub shape_of-ws : goal.shape_of-ws
shape_of-ws c = c.loop-j.invariant.2

pub returns : goal.returns
returns c =
    let a = c.args in
    let e : c.loop-j.j ≡ a.n = omega arith in
    c.loop-j.invariant.1 ∙ ap (λ (i : ℕ). inked a.to (part a.from i (octets a.ws.now)) a.ws.now) e
