-- What the two fetches answer is what was found, or the damage. Assumes nothing.
use Prim.Native.Nat.{ℕ}
use mathlib.Core.Path.{◌≡◌, ap, ◌∙◌}
use mathlib.Core.Bool.{true, false}
use mathlib.Core.List.{List}
use lib.Ieee.{Float}
use Rattle.std.specs.Prelude.{Err, Result}
use Rattle.refusal.specs.declared.Refusal.TheVariants.{DamagedPool}
use Rattle.layout.specs.Damage.{sound}
use Rattle.variables.specs.declared.variable.FindError.{FindError}
use Rattle.variables.specs.Found.{Finds}
use Rattle.variables.specs.Spelled.{Spells}
use Rattle.pool.specs.Fetch.{fetched, fetch_reply, fetch_buffer, Fetches}
use Rattle.pool.specs.FetchString.{string_reply, string_buffer, FetchesString}
use Rattle.pool.specs.Replies.{Fetched}

pub fetches-damaged : (name m : List ℕ) (before : List Float) → sound m ≡ false → Fetches name m before (Err DamagedPool) before
unfolding fetch_reply fetch_buffer
fetches-damaged name m before e = record { reply = rw e; buffer = rw e }

pub fetches-found : (name m : List ℕ) (before : List Float) (found : Result ℕ FindError) (r : Fetched) (after : List Float) → sound m ≡ true → r ≡ fetched found
    → Finds name m before found after → Fetches name m before r after
unfolding fetch_reply fetch_buffer
fetches-found name m before found r after e f F = record { reply = f ∙ rw e (ap fetched F.found); buffer = rw e F.buffer }

pub string-damaged : (name : List ℕ) (place : ℕ) (m before : List ℕ) → sound m ≡ false → FetchesString name place m before (Err DamagedPool) before
unfolding string_reply string_buffer
string-damaged name place m before e = record { reply = rw e; buffer = rw e }

pub string-found : (name : List ℕ) (place : ℕ) (m before : List ℕ) (found : Result ℕ FindError) (r : Fetched) (after : List ℕ) → sound m ≡ true → r ≡ fetched found
    → Spells name place m before found after → FetchesString name place m before r after
unfolding string_reply string_buffer
string-found name place m before found r after e f S = record { reply = f ∙ rw e (ap fetched S.found); buffer = rw e S.buffer }
