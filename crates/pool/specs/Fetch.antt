-- 13 where "no held statement has that name", 16 where a string is in the variable, 14 where "buffer shorter than the variable", all after
-- 15: what fetch answers, and the buffer that it leaves. Definitions only.
use Rattle.std.specs.Prelude.{ℕ, ◌≡◌, List, Float, Ok, Err, length, if◌then◌else◌, Result}
use Rattle.refusal.specs.declared.Refusal.TheVariants.{NoVariable, MixedKind, ShortBuffer, DamagedPool}
use Rattle.layout.specs.Memory.{decode}
use Rattle.layout.specs.Damage.{sound}
use Rattle.variables.specs.declared.variable.FindError.{FindError}
use Rattle.variables.specs.Found.{doubles, found_in, filled}
use Rattle.pool.specs.Replies.{Fetched}
use Rattle.variables.specs.declared.variable.FindError.TheVariants as W

abbrev pub fetched : Result ℕ FindError → Fetched
fetched (Ok n) = Ok n
fetched (Err W.TooMany) = Err ShortBuffer
fetched (Err W.Mixed) = Err MixedKind
fetched (Err W.Absent) = Err NoVariable

unfoldable pub fetch_reply : (name : List ℕ) (room : ℕ) (m : List ℕ) → Fetched
unfolding found_in
fetch_reply name room m = if sound m then fetched (found_in name room (decode m)) else Err DamagedPool

unfoldable pub fetch_buffer : (name m : List ℕ) (buffer : List Float) → List Float
unfolding found_in
fetch_buffer name m buffer =
    if sound m then filled (found_in name (length buffer) (decode m)) (doubles name (decode m)) buffer else buffer

-- the whole contract
pub record Fetches (name memory : List ℕ) (before : List Float) (r : Fetched) (after : List Float) : Type 0 where
  pub reply : r ≡ fetch_reply name (length before) memory
  pub buffer : after ≡ fetch_buffer name memory before
