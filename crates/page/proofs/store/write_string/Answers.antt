-- `write_string` meets its contract: the bytes written so far and those left in the line are all of the string. Assumes nothing.
use native.Mathlib.Omega.{arith}
use mathlib.Core.Path.{refl, ◌∙◌}
use borrow.Author.Tests.{eq-eqb, ne_eqb}
use Rattle.plain.specs.Bytes.{QUOTE}
use Rattle.words.proofs.Each.{words_of}
use Rattle.page.proofs.Copying.{at_first, reads, one_more, at_last}
use Rattle.page.proofs.store.write_string.Goals as goal
use Rattle.page.proofs.store.write_string.Goals.{then-b-eq39, else-b-eq39}

pub overflow_add-k : goal.overflow_add-k
overflow_add-k c = omega (arith, c.requires.1.inside)

pub loop-j-init : goal.loop-j-init
loop-j-init c = at_first _ _ _ _ (words_of c.args.m.now (λ i. omega (arith, c.fits-m i)))

pub bounds-line-k : goal.bounds-line-k
bounds-line-k c =
    reads _ _ _ _ _ _ _ c.loop-j.invariant (omega (arith, c.loop-j-test.true, c.requires.1.bytes))

pub overflow_add-at : goal.overflow_add-at
overflow_add-at c =
    let p = c.requires in
    omega (arith, c.loop-j-test.true, p.0, p.1.short)

pub set_byte_in-requires : goal.set_byte_in-requires
set_byte_in-requires c =
    omega (arith, c.told-m)

pub overflow_add-k-in-loop-j : goal.overflow_add-k-in-loop-j
overflow_add-k-in-loop-j c =
    omega (arith, reads _ _ _ _ _ _ _ c.loop-j.invariant (omega (arith, c.loop-j-test.true, c.requires.1.bytes)))

pub overflow_add-k-then-b-eq39 : goal.overflow_add-k-then-b-eq39
overflow_add-k-then-b-eq39 c =
    omega (arith, reads _ _ _ _ _ _ _ c.loop-j.invariant (omega (arith, c.loop-j-test.true, c.requires.1.bytes)))

pub loop-j-preserved : goal.loop-j-preserved
loop-j-preserved c =
    let p = c.requires in
    elim c.if-b-eq39.branch [
      | then-b-eq39 w ↦ one_more _ _ _ _ _ _ _ c.loop-j.invariant (omega (arith, c.loop-j-test.true, p.1.bytes)) (omega (arith, c.told-m))
          _ refl (omega (arith, c.type_inv.line c.loop-j.k)) _ (w.k-is ∙ rw (eq-eqb _ QUOTE w.if-b-eq39.true) (omega arith)) _ c.set_byte_in.ensures
      | else-b-eq39 w ↦ one_more _ _ _ _ _ _ _ c.loop-j.invariant (omega (arith, c.loop-j-test.true, p.1.bytes)) (omega (arith, c.told-m))
          _ refl (omega (arith, c.type_inv.line c.loop-j.k)) _ (w.k-is ∙ rw (ne_eqb _ QUOTE w.if-b-eq39.false) (omega arith)) _ c.set_byte_in.ensures
    ]

pub returns : goal.returns
returns c =
    at_last _ _ _ _ _ _ _ c.loop-j.invariant (omega (arith, c.loop-j-test.false, c.requires.1.bytes))
