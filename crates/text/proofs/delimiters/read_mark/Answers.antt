-- `read_mark` meets its contract: each way out is one case of `mark_of`. Assumes nothing.
use mathlib.Core.Path.{sym, ◌∙◌}
use native.Mathlib.Omega.{arith}
use Rattle.plain.proofs.Places.{past-within}
use Rattle.value.specs.Classes.{blank}
use Rattle.text.specs.Delimiters.{BEGINDATA, BEGINTEXT, mark_of}
use Rattle.text.proofs.Words.{exactly-at}
use Rattle.text.proofs.delimiters.read_mark.Goals as goal

pub slice_bounds-rest-count : goal.slice_bounds-rest-count
slice_bounds-rest-count c = omega (arith, c.past-at.ensures, past-within blank c.args.line.now 0 (omega arith))

pub slice_bounds-rest-start : goal.slice_bounds-rest-start
slice_bounds-rest-start c = omega (arith, c.past-at.ensures, past-within blank c.args.line.now 0 (omega arith))

pub returns-then-is_word : goal.returns-then-is_word
unfolding mark_of
returns-then-is_word c =
    let line = c.args.line.now in
    simp (exactly-at BEGINDATA line _ c.past-at.ensures ∙ sym c.is_word.ensures, c.if-is_word.true)

pub returns-then-is_word-2 : goal.returns-then-is_word-2
unfolding mark_of
returns-then-is_word-2 c =
    let line = c.args.line.now in
    simp (exactly-at BEGINDATA line _ c.past-at.ensures ∙ sym c.is_word.ensures, c.if-is_word.false, exactly-at BEGINTEXT line _ c.past-at.ensures ∙ sym c.is_word-2.ensures, c.if-is_word-2.true)

pub returns : goal.returns
unfolding mark_of
returns c =
    let line = c.args.line.now in
    simp (exactly-at BEGINDATA line _ c.past-at.ensures ∙ sym c.is_word.ensures, c.if-is_word.false, exactly-at BEGINTEXT line _ c.past-at.ensures ∙ sym c.is_word-2.ensures, c.if-is_word-2.false)
