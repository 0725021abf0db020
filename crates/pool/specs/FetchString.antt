-- "Strings are fetched by place, counted from 1, each to the start of a lent byte buffer, its length told." "fetching a string from a variable
-- with a number is 16 too, place 0 or past the end is 13; both fetches ask 13, 16, 14 in turn", after 15. Definitions only.
use Rattle.std.specs.Prelude.{ℕ, ◌≡◌, List, Err, length, if◌then◌else◌}
use Rattle.refusal.specs.declared.Refusal.TheVariants.{DamagedPool}
use Rattle.layout.specs.Memory.{decode}
use Rattle.layout.specs.Damage.{sound}
use Rattle.variables.specs.Variables.{variable}
use Rattle.variables.specs.Found.{filled}
use Rattle.variables.specs.Spelled.{string_of, spelled_in}
use Rattle.pool.specs.Replies.{Fetched}
use Rattle.pool.specs.Fetch.{fetched}

unfoldable pub string_reply : (name : List ℕ) (place room : ℕ) (m : List ℕ) → Fetched
unfolding spelled_in
string_reply name place room m = if sound m then fetched (spelled_in name place room (decode m)) else Err DamagedPool

unfoldable pub string_buffer : (name : List ℕ) (place : ℕ) (m buffer : List ℕ) → List ℕ
unfolding spelled_in
string_buffer name place m buffer =
    if sound m then filled (spelled_in name place (length buffer) (decode m)) (string_of place (variable name (decode m))) buffer else buffer

-- the whole contract
pub record FetchesString (name : List ℕ) (place : ℕ) (memory before : List ℕ) (r : Fetched) (after : List ℕ) : Type 0 where
  pub reply : r ≡ string_reply name place (length before) memory
  pub buffer : after ≡ string_buffer name place memory before
