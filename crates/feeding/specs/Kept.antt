-- What is kept of the line that goes on, "133 bytes" at most: all of a line that is no longer, and enough of a longer one. Definitions only.
use Rattle.std.specs.Prelude.{ℕ, Bool, true, false, List, [], ◌∷◌, ◌++◌, ltb, length, take, drop, get_or, if◌then◌else◌}
use Rattle.plain.specs.Bytes.{CR}
use Rattle.value.specs.Classes.{blank}
use Rattle.text.specs.Lengths.{LONGEST_LINE}

abbrev pub ROOM : ℕ
ROOM = 133

-- one byte more than there is room for. The line is over 132 bytes by now, and all that matters of it is which section it opens, if any: for
-- that a blank in front is nothing, nor is one after more bytes than a delimiter has; and a line with another byte there opens none
abbrev pub squeezed : List ℕ → ℕ → List ℕ
squeezed kept b =
    if blank (get_or kept 0 0) then drop 1 kept ++ b ∷ []
    else (if blank b then kept
    else take LONGEST_LINE kept ++ b ∷ [])

unfoldable pub keep : List ℕ → ℕ → List ℕ
keep kept b = if ltb (length kept) ROOM then kept ++ b ∷ [] else squeezed kept b

-- some bytes more of the line, one after the other
abbrev pub keep_all : List ℕ → (run : List ℕ) → List ℕ
keep_all kept [] = kept
keep_all kept (b ∷ bs) = keep_all (keep kept b) bs

-- the line that goes on, with a CR of which the next byte tells whether it is the line's
abbrev pub settled : List ℕ → (pending : Bool) → List ℕ
settled kept true = keep kept CR
settled kept false = kept
