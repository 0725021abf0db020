-- `number_words` meets its contract: the words of the standing are taken over one by one. Assumes nothing.
use native.Mathlib.Omega.{arith}
use Rattle.feeding.proofs.Longer.{line-long}
use Rattle.bookmark.proofs.Bookmarked.{numbers-written}
use Rattle.bookmark.proofs.write.number_words.Goals as goal

pub returns : goal.returns
returns c =
    let b = c.args.b in
    numbers-written b (line-long b.kept (omega arith)) _ c.standing_words.ensures _ c.from.ensures
