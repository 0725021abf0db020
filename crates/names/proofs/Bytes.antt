-- The name bytes are all below 128. Assumes nothing.
use mathlib.Core.Path.{◌≡◌, refl, sym, ◌∙◌}
use mathlib.Core.Bool.{Bool, true, false}
use Prim.Native.Nat.{ℕ, ◌≤◌, ◌<◌}
use native.Mathlib.Omega.{arith}
use borrow.Author.Tests.{ne_eqb, ltb-false, ltb-true}
use lib.Dec.{ltb}
use Rattle.plain.specs.Bytes.{ZERO, NINE, UNDERSCORE, UPPER_A, UPPER_Z, LOWER_A, LOWER_Z}
use Rattle.plain.proofs.Ranges.{within-above}
use Rattle.plain.proofs.Tests.{true-false}
use Rattle.value.specs.Classes.{name_byte}

name-above : (b : ℕ) → 128 ≤ b → name_byte b ≡ false
name-above b h =
    rw (within-above UPPER_A UPPER_Z b (omega arith), within-above LOWER_A LOWER_Z b (omega arith), within-above ZERO NINE b (omega arith), ne_eqb b UNDERSCORE (λ e. omega arith))

pub name_below : (b : ℕ) → name_byte b ≡ true → b < 128
name_below b e = by (ltb b 128) refl
  where
    by : (t : Bool) → ltb b 128 ≡ t → b < 128
    by true f = ltb-true b 128 f
    by false f = true-false (sym e ∙ name-above b (ltb-false b 128 f))
