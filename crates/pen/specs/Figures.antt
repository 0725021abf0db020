-- Numbers as they are written: in decimal, and the bits of a double in upper-case hexadecimal. Definitions only.
use Rattle.std.specs.Prelude.{ℕ, zero, suc, ◌+◌, ◌/◌, ◌%◌, List, [], ◌∷◌, ◌++◌, ltb, if◌then◌else◌}
use Rattle.plain.specs.Bytes.{ZERO}
use Rattle.pen.specs.Digits.{digits}

-- a decimal number of at most so many figures, without leading zeros
unfoldable pub decimal_up_to : (most : ℕ) → ℕ → List ℕ
decimal_up_to zero n = []
decimal_up_to (suc k) n = if ltb n 10 then (ZERO + n) ∷ [] else decimal_up_to k (n / 10) ++ ((ZERO + n % 10) ∷ [])

-- a word has at most twenty
abbrev pub decimal : ℕ → List ℕ
decimal n = decimal_up_to 20 n

-- the bits of a double, as a word's sixteen hexadecimal digits
abbrev pub bits : ℕ → List ℕ
bits w = digits 16 w
