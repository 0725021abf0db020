-- A full line, and bytes that come after it. Definitions only.
use Rattle.std.specs.Prelude.{ℕ, ◌≤◌, ◌<◌, ◌≡◌, false, List, ◌++◌, length, take, drop, get_or}
use Rattle.value.specs.Classes.{blank}
use Rattle.feeding.specs.Kept.{ROOM, keep_all}

-- what is kept after so many blanks in front are gone
abbrev pub slid : (full run : List ℕ) → (gone : ℕ) → List ℕ
slid full run gone = take ROOM (drop gone (full ++ run))

-- how many blanks in front go: one for each byte of the run, up to a byte that is none
pub record Slides (full run : List ℕ) (gone : ℕ) : Type 0 where
  pub within : gone ≤ length run
  pub stops : gone < length run → blank (get_or (full ++ run) gone 0) ≡ false
  pub is : keep_all full run ≡ keep_all (slid full run gone) (drop gone run)
