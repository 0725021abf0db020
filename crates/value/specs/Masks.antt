-- A class of bytes as bits, which is how the code keeps it. Definitions only.
use Rattle.std.specs.Prelude.{ℕ, ◌-◌, ◌/◌, ◌%◌, ◌^◌, ◌<◌, ◌≡◌, Bool, eqb, ltb, if◌then◌else◌}
use Rattle.value.specs.Classes.{is}
use Rattle.value.specs.declared.classes.Class.{Class}
use Rattle.value.specs.declared.classes.Mask.{Mask}

-- the bit of a byte
unfoldable pub bit : Mask → ℕ → Bool
bit m b =
    if ltb b 64 then eqb (m.low / 2 ^ b % 2) 1
    else (if ltb b 128 then eqb (m.high / 2 ^ (b - 64) % 2) 1 else m.beyond)

-- the bits of all bytes are those of the class
pub record Tells (k : Class) (m : Mask) : Type 0 where
  pub every : (b : ℕ) → b < 256 → bit m b ≡ is k b
