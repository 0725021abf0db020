-- A word in hexadecimal digits, in upper case. Definitions only.
use Rattle.std.specs.Prelude.{ℕ, zero, suc, ◌+◌, ◌-◌, ◌/◌, ◌%◌, List, [], ◌∷◌, ◌++◌, ltb, if◌then◌else◌}
use Rattle.plain.specs.Bytes.{ZERO, UPPER_A}

-- a digit's byte: 0 to 9, then A to F
abbrev pub digit_of : ℕ → ℕ
digit_of d = if ltb d 10 then ZERO + d else (UPPER_A + (d - 10))

-- the last `k` digits of a number, the most significant first
unfoldable pub digits : ℕ → ℕ → List ℕ
digits zero n = []
digits (suc k) n = digits k (n / 16) ++ (digit_of (n % 16) ∷ [])
