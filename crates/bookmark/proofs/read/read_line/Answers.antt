-- `read_line` meets its contract: the bytes copied are the line. Assumes nothing.
use Rattle.bookmark.proofs.Bookmarked.{reads-line}
use Rattle.bookmark.proofs.read.read_line.Goals as goal

pub returns : goal.returns
returns c = reads-line _ _ _ c.requires c.copy_bytes.ensures _
