-- The open text of a memory as the code has it. Definitions only.
use Rattle.std.specs.Prelude.{ℕ, ◌+◌, ◌≤◌, ◌<◌, ◌≡◌, true, List}
use Rattle.words.specs.Halves.{HALF}
use Rattle.layout.specs.Limits.{STATEMENTS, VALUES}
use Rattle.layout.specs.Memory.{statement_count, value_count, opens, open_statements, open_values}
use Rattle.layout.specs.Damage.{Framed, sound}
use Rattle.layout.specs.Totals.{Behind}
use Rattle.bookmark.specs.declared.mark.Bookmark.{Bookmark}
use Rattle.bookmark.specs.declared.mark.Entered.{Entered}
use Rattle.taking.specs.Marked.{open_of}
use Rattle.taking.specs.Taking.{Fine}
use Rattle.intake.specs.Opened.{open_in, beginning}

-- a text is open in a memory that is not damaged
pub record Opened (m : List ℕ) : Type 0 where
  pub undamaged : sound m ≡ true
  pub opened : opens m ≡ true
  pub behind : Behind m

-- the counts are those of the open text, which are within their areas
pub record Counts (m : List ℕ) (e : Entered) : Type 0 where
  pub open-in : Opened m
  pub statements : e.statements ≡ open_statements m
  pub values : e.values ≡ open_values m
  pub heads-room : statement_count m + e.statements ≤ STATEMENTS
  pub values-room : value_count m + e.values ≤ VALUES

-- the bookmark is that of the memory's open text, which may be fed
pub record Finds (m : List ℕ) (r : Bookmark) : Type 0 where
  pub is : open_of m r ≡ open_in m
  pub fine : Fine m r

-- the words of the open text can be written
pub record Stowable (m : List ℕ) (label : ℕ) (b : Bookmark) : Type 0 where
  pub sizes : Framed m
  pub few : b.entered.statements < HALF
  pub short : label < HALF

-- of a text that was just opened
pub record Begins (r : Bookmark) : Type 0 where
  pub is : (m : List ℕ) → open_of m r ≡ beginning m
