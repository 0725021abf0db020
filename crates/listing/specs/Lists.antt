-- What the function owes that makes the listing of a text, and the room for it. Definitions only.
use Rattle.std.specs.Prelude.{ℕ, ◌≡◌, List, length}
use Rattle.words.specs.Over.{over}
use Rattle.listing.specs.Listing.{listing}

-- room for every listing: two lines of a word and a number, 512 of a name and a number, and 3,072 of sixteen digits or of a string, with
-- two bytes for each of the strings' 8,192
abbrev pub SIZE : ℕ
SIZE = 96315

-- the whole contract
pub record Lists (text before : List ℕ) (r : ℕ) (after : List ℕ) : Type 0 where
  pub size : r ≡ length (listing text)
  pub output : after ≡ over 0 (listing text) before
