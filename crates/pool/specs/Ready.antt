-- Before a call changes the pool: 15 is given by "every call that uses the pool"; "22 TEXT OPEN, for load, opening, removal and clear while one is
-- open, stands after 15"; "feeding, closing or dropping with none open is 8". Definitions only.
use Rattle.std.specs.Prelude.{ℕ, List, Result, Ok, Err, if◌then◌else◌}
use Rattle.refusal.specs.declared.Refusal.{Refusal}
use Rattle.refusal.specs.declared.Refusal.TheVariants.{NotHeld, DamagedPool, TextOpen}
use Rattle.layout.specs.Memory.{opens}
use Rattle.layout.specs.Damage.{sound}

-- no text is open in an undamaged memory
unfoldable pub with_none_open : List ℕ → Result (Unit {0}) Refusal
with_none_open m = if sound m then (if opens m then Err TextOpen else Ok tt) else Err DamagedPool

-- a text is open in an undamaged memory
unfoldable pub with_one_open : List ℕ → Result (Unit {0}) Refusal
with_one_open m = if sound m then (if opens m then Ok tt else Err NotHeld) else Err DamagedPool
