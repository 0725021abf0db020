-- `hold_nothing` meets its contract: putting no texts writes the front alone. Assumes nothing.
use mathlib.Core.Path.{sym, ◌∙◌}
use Rattle.words.proofs.Each.{words_of}
use Rattle.pool.proofs.Emptying.{put-none}
use Rattle.pool.proofs.empty.hold_nothing.Goals as goal

pub returns : goal.returns
returns c =
    c.write_front.ensures ∙ sym (put-none _ (words_of c.args.pool.now (λ i. (c.slice_known-1.given i).fits)))
