-- `open_in` meets its contract: the words of the open text are read, and its reader is believed as far as it is borne out. Assumes nothing.
use native.Mathlib.Omega.{arith}
use Rattle.words.proofs.Each.{words_of}
use Rattle.intake.proofs.Finding.{open-readable, open-counts, finds}
use Rattle.intake.proofs.state.open_in.Goals as goal

pub read-b-requires : goal.read-b-requires
read-b-requires c = let a = c.requires in open-readable _ a.undamaged a.opened _ c.part_of.ensures

pub borne-settled-requires : goal.borne-settled-requires
borne-settled-requires c = let a = c.requires in open-counts _ a.undamaged a.opened _ c.part_of.ensures _ c.lower-statements.ensures _ c.read-b.ensures

pub returns : goal.returns
returns c = let a = c.requires in finds _ a.undamaged a.opened _ c.part_of.ensures _ c.lower-statements.ensures _ c.read-b.ensures (words_of c.args.pool.now (λ i. omega (arith, c.shared_slice_known-1.given i))) _ c.borne-settled.ensures
