-- `answer_of` meets its contract: 2 first, and then the answer by how the text stands at its end. Assumes nothing.
use borrow.Author.Tests.{lt-ltb, le-ltb}
use mathlib.Core.Path.{◌∙◌}
use Rattle.closing.proofs.Closing.{found-long, too_long, lasts-short, ends_as}
use Rattle.closing.proofs.ending.answer_of.Goals as goal

pub returns-then-b-gt-MOST : goal.returns-then-b-gt-MOST
returns-then-b-gt-MOST c = rw c.into.ensures (too_long _ (found-long _ _ c.requires.finds ∙ lt-ltb _ _ c.if-b-gt-MOST.true))

pub end_reply-requires : goal.end_reply-requires
end_reply-requires c = lasts-short _ c.requires.open-in _ c.reach_end.ensures

pub returns : goal.returns
returns c = ends_as _ c.requires.open-in _ c.reach_end.ensures (found-long _ _ c.requires.finds ∙ le-ltb _ _ c.if-b-gt-MOST.false) _ c.end_reply.ensures
