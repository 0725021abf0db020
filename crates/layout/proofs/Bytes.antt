-- A data line's bytes are all below 128. Assumes nothing.
use mathlib.Core.Path.{◌≡◌, refl, sym, ◌∙◌}
use mathlib.Core.Bool.{Bool, true, false}
use Prim.Native.Nat.{ℕ, ◌≤◌, ◌<◌}
use native.Mathlib.Omega.{arith}
use borrow.Author.Tests.{ne_eqb, ltb-false, ltb-true}
use lib.Dec.{ltb}
use Rattle.plain.specs.Bytes.{TAB, fair}
use Rattle.plain.proofs.Ranges.{within-above}
use Rattle.plain.proofs.Tests.{true-false}

fair-above : (b : ℕ) → 128 ≤ b → fair b ≡ false
fair-above b h = rw (within-above 32 126 b (omega arith), ne_eqb b TAB (λ e. omega arith))

pub fair-below : (b : ℕ) → fair b ≡ true → b < 128
fair-below b e = by (ltb b 128) refl
  where
    by : (t : Bool) → ltb b 128 ≡ t → b < 128
    by true f = ltb-true b 128 f
    by false f = true-false (sym e ∙ fair-above b (ltb-false b 128 f))
