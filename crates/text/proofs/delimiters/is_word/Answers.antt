-- `is_word` meets its contract: what follows the word is blanks only, or the word is not there. Assumes nothing.
use mathlib.Core.Path.{sym}
use Rattle.std.proofs.lemmas.Bool.Decides.{Decides-eqb}
use Rattle.std.proofs.lemmas.Slice.Eq.{strip_prefix_is}
use Rattle.text.proofs.Words.{word-first, word-absent}
use Rattle.text.proofs.delimiters.is_word.Goals as goal

pub returns-in-Some : goal.returns-in-Some
returns-in-Some c =
    let a = c.args in
    let m = strip_prefix_is Decides-eqb a.bytes.now a.expected.now c.strip_prefix.result c.strip_prefix.ensures.cases in
    rw c.past.ensures (sym (word-first _ _ _ (rw c.in-Some.is at m)))

pub returns-in-None : goal.returns-in-None
returns-in-None c =
    let a = c.args in
    let m = strip_prefix_is Decides-eqb a.bytes.now a.expected.now c.strip_prefix.result c.strip_prefix.ensures.cases in
    sym (word-absent _ _ (rw c.in-None.is at m))
