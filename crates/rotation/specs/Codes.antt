-- "Codes are 1 to 10 and 100 to 999; others are UNKNOWN BODY. .. s being the hundreds of n, or n itself up to 10;" Definitions only.
use Rattle.std.specs.Prelude.{ℕ, ◌/◌, Option, Some, None, if◌then◌else◌}
use Rattle.plain.specs.Bytes.{within}

-- the angle system of a code
unfoldable pub system_of : ℕ → Option ℕ
system_of n = if within 1 10 n then Some n else (if within 100 999 n then Some (n / 100) else None)
