-- How long numbers, strings and lines are: twenty figures at most, as many digits as are asked for, and two bytes for each of a string.
-- Assumes nothing.
use mathlib.Core.Path.{◌≡◌, refl}
use mathlib.Core.Bool.{Bool, true, false}
use mathlib.Core.List.{List, [], ◌∷◌, ◌++◌}
use Prim.Native.Nat.{ℕ, zero, suc, ◌+◌, ◌*◌, ◌/◌, ◌%◌, ◌≤◌}
use native.Mathlib.Omega.{arith}
use lib.Dec.{eqb, ltb}
use lib.ListN.{length, length-append}
use Rattle.plain.specs.Bytes.{LF, SPACE, QUOTE, ZERO}
use Rattle.std.specs.Prelude.{if◌then◌else◌}
use Rattle.value.specs.Strings.{doubled, quoted}
use Rattle.pen.specs.Digits.{digit_of, digits}
use Rattle.pen.specs.Figures.{decimal_up_to, decimal}
use Rattle.pen.specs.Pen.{entry}
use Rattle.pen.proofs.Decimals.{figure}

-- a number has at most the figures that it may have
pub length-decimal_up_to : (k n : ℕ) → length (decimal_up_to k n) ≤ k
unfolding decimal_up_to
length-decimal_up_to zero n = omega arith
length-decimal_up_to (suc k) n = by (ltb n 10) (length-decimal_up_to k (n / 10))
  where
    by : (t : Bool) → length (decimal_up_to k (n / 10)) ≤ k → length (if t then (ZERO + n) ∷ [] else (decimal_up_to k (n / 10) ++ figure n)) ≤ suc k
    by true r = omega arith
    by false r = omega (arith, length-append (decimal_up_to k (n / 10)) (figure n))

-- a line of a word and a number: a space, at most twenty figures, and its end
pub length-entry : (word : List ℕ) (n : ℕ) → length (entry word n) ≤ length word + 22
length-entry word n =
    omega (arith, length-append word (SPACE ∷ decimal n ++ (LF ∷ [])), length-append (decimal n) (LF ∷ []), length-decimal_up_to 20 n)

pub length_digits : (k n : ℕ) → length (digits k n) ≡ k
unfolding digits
length_digits zero n = refl
length_digits (suc k) n = omega (arith, length-append (digits k (n / 16)) (digit_of (n % 16) ∷ []), length_digits k (n / 16))

-- a string whose bytes are all quotes is the longest
length-doubled : (s : List ℕ) → length (doubled s) ≤ 2 * length s
length-doubled [] = omega arith
length-doubled (b ∷ s) = by (eqb b QUOTE) (length-doubled s)
  where
    by : (t : Bool) → length (doubled s) ≤ 2 * length s → length (if t then QUOTE ∷ QUOTE ∷ doubled s else (b ∷ doubled s)) ≤ 2 * suc (length s)
    by true r = omega arith
    by false r = omega arith

pub length-quoted : (s : List ℕ) → length (quoted s) ≤ 2 * length s + 2
length-quoted s = omega (arith, length-append (doubled s) (QUOTE ∷ []), length-doubled s)
