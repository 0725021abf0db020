-- `hold` meets its contract: the last line is laid behind the others, and the text sealed. Assumes nothing.
use native.Mathlib.Omega.{arith}
use Rattle.words.proofs.Each.{words_of}
use Rattle.intake.proofs.Stowing.{label-short}
use Rattle.closing.proofs.Closing.{sealable, sealed-put}
use Rattle.closing.proofs.ending.hold.Goals as goal

pub seal-requires : goal.seal-requires
seal-requires c = sealable _ _ c.requires (words_of c.args.pool.now (λ i. (c.slice_known-1.given i).fits)) _ _ c.store_last-entered.ensures _ (label-short c.args.pool.now _ (λ i. omega (arith, c.slice_known-1.given i)) c.label_in-label.ensures)

pub returns : goal.returns
returns c = sealed-put _ _ c.requires (words_of c.args.pool.now (λ i. (c.slice_known-1.given i).fits)) _ _ c.store_last-entered.ensures _ c.label_in-label.ensures _ c.seal.ensures
