-- "The listing program reads one text from standard input, up to the text limit": what is printed of what was read. Definitions
-- only.
use Rattle.std.specs.Prelude.{ℕ, ◌≡◌, ◌≤◌, List, [], ◌∷◌, ◌++◌, length, take, IfSome}
use Rattle.std.specs.declared.option.Option.{Option}
use Rattle.std.specs.declared.option.Option.TheVariants.{Some, None}
use Rattle.plain.specs.Ascii.{ascii}
use Rattle.plain.specs.Bytes.{LF}
use Rattle.listing.specs.Listing.{listing}

-- the bytes that came stand in the room
abbrev pub Within : Option ℕ → (room : List ℕ) → Type 0
Within (Some count) room = count ≤ length room
Within None room = Unit {0}

-- all reads: the bytes that came were all that were left, or as many as the room has
abbrev pub Brings : (left : Option (List ℕ)) → Option ℕ → (room : List ℕ) → Type 0
Brings left (Some count) room = IfSome left (λ xs. take count room ≡ take (length room) xs)
Brings left None room = Unit {0}

-- where a read failed nothing is known of the text, and one line says so
abbrev pub UNREADABLE : List ℕ
UNREADABLE = ascii "unreadable"

unfoldable pub printed : (room : List ℕ) → Option ℕ → List ℕ
printed room (Some count) = listing (take count room)
printed room None = UNREADABLE ++ (LF ∷ [])
