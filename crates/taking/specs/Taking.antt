-- A part taken into an open text: its bytes up to the first LF go to the line that goes on, its whole lines are read where they lie, and the
-- bytes after the last LF are kept. Definitions only.
use Rattle.std.specs.Prelude.{ℕ, ◌+◌, ◌≤◌, ◌≡◌, false, List, [], ◌∷◌, length, drop}
use Rattle.plain.specs.Bytes.{LF}
use Rattle.plain.specs.Runs.{run}
use Rattle.value.specs.Classes.{line_byte}
use Rattle.feeding.specs.Parts.{MOST, fed}
use Rattle.bookmark.specs.declared.mark.Entered.{Entered}
use Rattle.bookmark.specs.declared.mark.Bookmark.{Bookmark}
use Rattle.entering.specs.Entries.{entry}
use Rattle.taking.specs.Marked.{open_of, between}
use Rattle.entering.specs.Entries.{complete_on}
use Rattle.entering.specs.Lines.{Ready}
use Rattle.taking.specs.declared.part.Reached.{Reached}

-- the bookmark of an open text that may be fed
pub record Fine (m : List ℕ) (b : Bookmark) : Type 0 where
  pub ready : Ready m b.entered
  pub most : b.total ≤ MOST + 1

-- the part is fed
pub record Takes (m : List ℕ) (b : Bookmark) (part after : List ℕ) (r : Bookmark) : Type 0 where
  pub is : open_of after r ≡ fed complete_on (open_of m b) part
  pub fine : Fine after r

-- bytes of one line
abbrev pub Unbroken : List ℕ → Type 0
Unbroken bs = run line_byte bs ≡ bs

-- bytes of a line that goes on are fed, which changes no complete line
pub record Holds (b : Bookmark) (bytes : List ℕ) (r : Bookmark) : Type 0 where
  pub is : (m : List ℕ) → open_of m r ≡ fed complete_on (open_of m b) bytes
  pub entered : r.entered ≡ b.entered
  pub total : r.total ≡ b.total + length bytes

-- an LF is fed, after which nothing is kept
pub record Ends (m : List ℕ) (b : Bookmark) (after : List ℕ) (r : Bookmark) : Type 0 where
  pub is : open_of after r ≡ fed complete_on (open_of m b) (LF ∷ [])
  pub ready : Ready after r.entered
  pub none : r.kept.used ≡ 0
  pub settled : r.pending ≡ false
  pub total : r.total ≡ b.total + 1

-- whole lines of a part are fed, up to a place
pub record Reaches (m : List ℕ) (e : Entered) (number long : ℕ) (part after : List ℕ) (r : Reached) : Type 0 where
  pub within : r.at ≤ length part
  pub ready : Ready after r.entered
  pub is : (bytes : ℕ) → bytes + length part ≤ MOST
      → fed complete_on (between (entry m e) number long bytes) part
      ≡ fed complete_on (between (entry after r.entered) r.number r.long (bytes + r.at)) (drop r.at part)
