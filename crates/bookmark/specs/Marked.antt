-- Where an open text stands as the code has it: the line that goes on is at the start of an array. Definitions only.
use Rattle.std.specs.Prelude.{ℕ, ◌≤◌, ◌≡◌, List, length, take, get_or}
use Rattle.octets.specs.Octets.{octets}
use Rattle.feeding.specs.Kept.{ROOM}
use Rattle.feeding.specs.Parts.{Open}
use Rattle.feeding.specs.Stored.{line}
use Rattle.feeding.specs.declared.kept.Kept.{Kept}
use Rattle.bookmark.specs.declared.mark.Bookmark.{Bookmark}
use Rattle.bookmark.specs.declared.mark.Entered.{Entered}
use Rattle.bookmark.specs.Limits.{LINEWORDS, MARKWORDS}
use Rattle.bookmark.specs.Words.{read_open}

abbrev pub open_of : Bookmark → Open Entered
open_of b =
    record {
      progress = b.entered;
      number = b.number;
      long = b.long;
      kept = line b.kept;
      pending = b.pending;
      bytes = b.total;
    }

-- thirty words whose kept line is no longer than one may be
pub record Readable (ws : List ℕ) : Type 0 where
  pub words : length ws ≡ MARKWORDS
  pub kept : get_or ws 10 0 ≤ ROOM

pub record Reads (ws : List ℕ) (statements : ℕ) (r : Bookmark) : Type 0 where
  pub is : open_of r ≡ read_open statements ws
  pub long : length (line r.kept) ≡ r.kept.used

-- the words of the kept line alone
pub record LineReadable (ws : List ℕ) (used : ℕ) : Type 0 where
  pub words : length ws ≡ LINEWORDS
  pub kept : used ≤ ROOM

pub record ReadsLine (ws : List ℕ) (used : ℕ) (r : Kept) : Type 0 where
  pub is : line r ≡ take used (octets ws)
  pub as_long : r.used ≡ used
  pub long : length (line r) ≡ r.used
