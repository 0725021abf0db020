-- "In the old class the bits are proved unchanged": there one multiplication or division of exact operands rounds w·10^k once. Assumes nothing.
use Prim.Native.Nat.{ℕ, suc, ◌<◌}
use mathlib.Core.Path.{◌≡◌, sym, ap}
use mathlib.Core.Bool.{Bool, true}
use native.Mathlib.Omega.{arith}
use lib.Dec.{leb}
use lib.IntN.{ℤ, pos, negsuc, nat_abs}
use lib.Ieee.{Float}
use borrow.Author.Tests.{leb-true, lt-ltb}
use Rattle.plain.proofs.Tests.{both}
use Rattle.rounding.specs.Exact.{LARGEST, STEEPEST}
use Rattle.rounding.proofs.Exact.{times-once, over-once}
use Rattle.decimal.specs.Form.{number}
use Rattle.decimal.specs.Class.{FAR, scaled_by, signed, valued}
use Rattle.decimal.specs.Before.{in_class_before, scaled_before}
use Rattle.decimal.specs.declared.Reading.TheVariants.{Number}

pub old-class : (w : ℕ) (k : ℤ) → in_class_before w k ≡ true → scaled_by w k ≡ scaled_before w k
old-class w (pos k) e = let b = both (leb w LARGEST) (leb k STEEPEST) e in sym (times-once k (leb-true k STEEPEST b.1) w (leb-true w LARGEST b.0))
old-class w (negsuc k) e =
    let b = both (leb w LARGEST) (leb (suc k) STEEPEST) e in sym (over-once (suc k) (leb-true (suc k) STEEPEST b.1) w (leb-true w LARGEST b.0))

-- what was a number of the old class is the same number
pub same_number : (m : Bool) (w : ℕ) (k : ℤ) → in_class_before w k ≡ true → valued (number m w k) ≡ Number (signed m (scaled_before w k))
same_number m w k e =
    let b = both (leb w LARGEST) (leb (nat_abs k) STEEPEST) e in
    let h : w < FAR = omega (arith, leb-true w LARGEST b.0) in
    rw (lt-ltb w FAR h, b.1) (ap (λ (x : Float). Number (signed m x)) (old-class w k e))
