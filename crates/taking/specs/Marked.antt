-- An open text between two parts as the code has it: a bookmark beside the pool's memory. Definitions only.
use Rattle.std.specs.Prelude.{ℕ, false, List, []}
use Rattle.feeding.specs.Parts.{Open}
use Rattle.feeding.specs.Stored.{line}
use Rattle.bookmark.specs.declared.mark.Bookmark.{Bookmark}
use Rattle.entering.specs.Entries.{Entry, entry}

abbrev pub open_of : (m : List ℕ) → Bookmark → Open Entry
open_of m b =
    record {
      progress = entry m b.entered;
      number = b.number;
      long = b.long;
      kept = line b.kept;
      pending = b.pending;
      bytes = b.total;
    }

-- the same between two lines, after so many bytes
abbrev pub between : Entry → (number long bytes : ℕ) → Open Entry
between p number long bytes = record { progress = p; number = number; long = long; kept = []; pending = false; bytes = bytes }
