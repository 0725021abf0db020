-- `end_reply` meets its contract: each way in which the text stands is one of its cases. Assumes nothing.
use native.Mathlib.Omega.{arith}
use Rattle.words.proofs.Each.{words_of}
use Rattle.closing.proofs.Closing.{faulted-place, stored-end}
use Rattle.closing.proofs.ending.end_reply.Goals as goal

pub returns-in-Storing : goal.returns-in-Storing
returns-in-Storing c = stored-end _ c.requires.open-in _ _ _ _ c.in-Storing.is (words_of c.args.pool.now (λ i. (c.shared_slice_known-1.given i).fits)) _ c.at_end.ensures

pub returns-in-Overflowed : goal.returns-in-Overflowed
returns-in-Overflowed c = simp c.in-Overflowed.is c.at_end-in-Overflowed.ensures

pub refused_at-requires : goal.refused_at-requires
refused_at-requires c = omega (arith, faulted-place _ _ c.in-Faulted.is c.requires.placed)

pub returns-in-Faulted : goal.returns-in-Faulted
returns-in-Faulted c = simp c.in-Faulted.is c.refused_at.ensures
