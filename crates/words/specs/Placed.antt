-- Bytes written into a buffer at a place: what is needed, and what is done. Definitions only.
use Rattle.std.specs.Prelude.{ℕ, ◌+◌, ◌≤◌, ◌≡◌, List, length}
use Rattle.words.specs.Over.{over}

-- the bytes have room from the place on
pub record Room (at : ℕ) (xs out : List ℕ) : Type 0 where
  pub fits : at + length xs ≤ length out

-- they are written there, and the place after them is answered
pub record Writes (at : ℕ) (xs before : List ℕ) (r : ℕ) (after : List ℕ) : Type 0 where
  pub next : r ≡ at + length xs
  pub output : after ≡ over at xs before
