-- `main` is safe: no more bytes are printed than the output has. Assumes nothing.
use mathlib.Core.Path.{sym}
use lib.Seq.{length-take-le}
use Rattle.listing.proofs.Reading.{within-output}
use Rattle.listing.proofs.main.Goals as goal

pub slice_bounds-out-end : goal.slice_bounds-out-end
slice_bounds-out-end c = within-output _ _ c.answer-end.ensures c.listing_room-out.ensures

pub slice_bounds-write_all-end : goal.slice_bounds-write_all-end
slice_bounds-write_all-end c = sym (length-take-le _ _ (within-output _ _ c.answer-end.ensures c.listing_room-out.ensures))
