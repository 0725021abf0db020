-- Hexadecimal digits are a text. Assumes nothing.
use native.Mathlib.Omega.{arith}
use Prim.Native.Nat.{ℕ, zero, suc, ◌/◌, ◌%◌, ◌<◌}
use mathlib.Core.List.{[], ◌∷◌}
use Rattle.std.specs.Str.{IsAscii, IsUtf8}
use Rattle.std.proofs.lemmas.Grind.{common_steps}
use Rattle.std.proofs.lemmas.Str.{IsUtf8-nil, IsUtf8-append, IsUtf8-from_ascii}
use Rattle.pen.specs.Digits.{digit_of, digits}

one_byte : (c : ℕ) → c < 128 → IsAscii (c ∷ [])
one_byte c small zero = small
one_byte c small (suc i) = omega arith

digit_small : (d : ℕ) → d < 16 → digit_of d < 128
digit_small d h = grind (arith, common_steps)

pub digits-IsUtf8 : (k n : ℕ) → IsUtf8 (digits k n)
unfolding digits
digits-IsUtf8 zero n = IsUtf8-nil
digits-IsUtf8 (suc k) n =
    let last = digit_of (n % 16) in
    let small = digit_small (n % 16) (omega arith) in
    IsUtf8-append (digits k (n / 16)) (last ∷ []) (digits-IsUtf8 k (n / 16)) (IsUtf8-from_ascii (last ∷ []) (one_byte last small))
