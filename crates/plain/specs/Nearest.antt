-- Document 02, K4: "the double nearest to the exact" value, "ties to the even significand, and this is said over whole numbers: no other double is
-- nearer". Definitions only.
use Rattle.std.specs.Prelude.{ℕ, ◌+◌, ◌-◌, ◌*◌, ◌%◌, ◌≤◌, ◌≡◌, ◌⊎◌, Bool, true, false, T, Float}
use Rattle.std.specs.Float.{nan, inf, fin, Format}
use Rattle.std.specs.Float.Ieee.{up, down, fits, to_bits}
use Rattle.std.specs.Float.Ieee.Scale.{finite}
use Rattle.std.specs.Float.Ieee.Positive.{den}

-- how far apart two whole numbers are
abbrev pub gap : ℕ → ℕ → ℕ
gap a b = (a - b) + (b - a)

-- how far apart the fraction a / c and a finite double x are, times c and times x's denominator
abbrev pub apart : (a c : ℕ) → Float → ℕ
apart a c nan = 0
apart a c (inf s) = 0
apart a c (fin false m e) = gap (a * down e) (m * up e * c)
apart a c (fin true m e) = a * down e + m * up e * c

abbrev pub negative : Float → Bool
negative nan = false
negative (inf s) = s
negative (fin s m e) = s

-- v is a finite value of the format without a minus, and no finite value y of it is nearer to a / c: the two distances are compared crosswise, by
-- the denominators. A y that is as near is v itself, or v's significand is even: it ends v's bits.
pub record Nearest (f : Format) (a c : ℕ) (v : Float) : Type 0 where
  pub held : T (fits f v)
  pub number : T (finite v)
  pub plus : negative v ≡ false
  pub no-nearer : (y : Float) → T (fits f y) → T (finite y) → apart a c v * den y ≤ apart a c y * den v
  pub even : (y : Float) → T (fits f y) → T (finite y) → apart a c v * den y ≡ apart a c y * den v → (y ≡ v) ⊎ (to_bits f v % 2 ≡ 0)
