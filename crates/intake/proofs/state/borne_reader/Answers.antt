-- `borne_reader` meets its contract: the last head and the last value say which statement is stored last. Assumes nothing.
use native.Mathlib.Omega.{arith}
use borrow.Author.Tests.{eqb-true, eqb-false}
use mathlib.Core.Path.{refl, ◌∙◌}
use Rattle.words.proofs.Each.{words_of}
use Rattle.intake.proofs.Lasting.{none-borne, strings-borne, many-borne, one-borne}
use Rattle.intake.proofs.state.borne_reader.Goals as goal

pub returns-then-entered-eq0 : goal.returns-then-entered-eq0
returns-then-entered-eq0 c = c.settle_reader.ensures ∙ none-borne _ _ c.requires c.if-entered-eq0.true _

pub returns-then-not-holds_numbers : goal.returns-then-not-holds_numbers
returns-then-not-holds_numbers c = c.settle_reader-then-not-holds_numbers.ensures ∙ strings-borne _ _ c.requires c.if-entered-eq0.false (words_of c.args.pool.now (λ i. omega (arith, c.shared_slice_known-1.given i))) _ refl (eqb-false _ _ (rw c.holds_numbers.ensures at c.if-not-holds_numbers.true)) _

pub returns-then-value_count-ne1 : goal.returns-then-value_count-ne1
returns-then-value_count-ne1 c = c.settle_reader-then-value_count-ne1.ensures ∙ many-borne _ _ c.requires c.if-entered-eq0.false (words_of c.args.pool.now (λ i. omega (arith, c.shared_slice_known-1.given i))) _ refl (eqb-true _ _ (rw c.holds_numbers.ensures at c.if-not-holds_numbers.false)) (rw c.value_count.ensures at c.if-value_count-ne1.true) _

pub returns : goal.returns
returns c = c.settle_reader-2.ensures ∙ one-borne _ _ c.requires c.if-entered-eq0.false (words_of c.args.pool.now (λ i. omega (arith, c.shared_slice_known-1.given i))) _ refl (eqb-true _ _ (rw c.holds_numbers.ensures at c.if-not-holds_numbers.false)) (rw c.value_count.ensures at c.if-value_count-ne1.false) _
