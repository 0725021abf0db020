-- `read` meets its contract: each part is what its words say. Assumes nothing.
use Prim.Native.Nat.{ℕ}
use mathlib.Core.Path.{subst}
use mathlib.Core.List.{List}
use lib.ListN.{get_or}
use Rattle.words.proofs.Steps.{rest_part}
use Rattle.bookmark.specs.Limits.{NUMBERWORDS}
use Rattle.bookmark.specs.Marked.{ReadsLine}
use Rattle.bookmark.proofs.Bookmarked.{reads}
use Rattle.bookmark.proofs.read.read.Goals as goal

pub returns : goal.returns
returns c =
    let ws = c.args.ws.now in
    reads ws c.args.statements c.requires _ c.standing_of-standing.ensures c.read_line-kept.result
    (subst (λ (l : List ℕ). ReadsLine l (get_or ws 10 0) c.read_line-kept.result) (rest_part ws NUMBERWORDS) c.read_line-kept.ensures)
