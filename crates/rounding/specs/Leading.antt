-- A fraction's leading digits, and one digit more that says whether anything is left: enough to round the fraction by. Definitions only.
use Rattle.std.specs.Prelude.{ℕ, zero, suc, ◌+◌, ◌-◌, ◌*◌, ◌/◌, ◌%◌, ◌^◌, ◌≤◌, ◌<◌, ◌≡◌}
use Rattle.rounding.specs.declared.wide.Part.{Part}

-- 1 for all but 0
abbrev pub some : ℕ → ℕ
some zero = 0
some (suc n) = 1

-- the whole part of x / y, then the digit that says whether anything is left
unfoldable pub sticky : (x y : ℕ) → ℕ
sticky x y = x / y * 2 + some (x % y)

-- x moved up by r places leaves so many of a u64's 64 places free, and no more
pub record Moved (x free r : ℕ) : Type 0 where
  pub least : 2 ^ (63 - free) ≤ x * 2 ^ r
  pub most : x * 2 ^ r < 2 ^ (64 - free)
  pub short : r ≤ 63

-- 26 binary digits more of a quotient by d
pub record Further (d : ℕ) (p r : Part) : Type 0 where
  pub worth : r.whole * d + r.rest ≡ (p.whole * d + p.rest) * 2 ^ 26
  pub below : r.rest < d
  pub most : r.whole ≤ (p.whole + 1) * 2 ^ 26
