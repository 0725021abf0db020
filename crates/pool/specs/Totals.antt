-- "totals held (texts, statements, values)", "totals being the counts summed over those texts". Definitions only.
use Rattle.std.specs.Prelude.{ℕ, ◌≡◌, List, Ok, Err, length, if◌then◌else◌}
use Rattle.refusal.specs.declared.Refusal.TheVariants.{DamagedPool}
use Rattle.layout.specs.State.{Pool, program, values}
use Rattle.layout.specs.Memory.{decode}
use Rattle.layout.specs.Damage.{sound}
use Rattle.pool.specs.Replies.{Counted}

abbrev pub counts : Pool → Counted
counts s = Ok (record { texts = length s; statements = length (program s); values = length (values s) })

unfoldable pub totals_reply : List ℕ → Counted
totals_reply m = if sound m then counts (decode m) else Err DamagedPool

-- the whole contract
pub record Totals (memory : List ℕ) (r : Counted) : Type 0 where
  pub reply : r ≡ totals_reply memory
