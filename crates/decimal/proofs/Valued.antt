-- What a number is worth, by the tests of the class; numbers that are alike are worth the same. Assumes nothing.
use Prim.Native.Nat.{ℕ, ◌+◌, ◌-◌, ◌≤◌, ◌<◌}
use mathlib.Core.Path.{◌≡◌, ap, sym, ◌∙◌}
use mathlib.Core.Logic.{inl, inr}
use mathlib.Core.Bool.{Bool, true, false, and-false}
use native.Mathlib.Omega.{arith}
use lib.IntN.{ℤ, pos, nat_abs, ◌-ℤ◌}
use borrow.Author.Tests.{lt-leb, le-ltb}
use Rattle.std.specs.Prelude.{if◌then◌else◌}
use Rattle.refusal.specs.declared.Refusal.TheVariants as R
use Rattle.rounding.specs.Exact.{STEEPEST}
use Rattle.decimal.specs.Form.{Written, number}
use Rattle.decimal.specs.Class.{FAR, valued}
use Rattle.decimal.specs.Parts.{Alike}
use Rattle.decimal.specs.declared.Reading.TheVariants.{OutsideClass}
use Rattle.decimal.proofs.Exponents.{difference-size}

module _ (m : Bool) (w : ℕ) where
  pub valued-large : (k : ℤ) → FAR ≤ w → valued (number m w k) ≡ OutsideClass R.Number
  valued-large k h = simp (le-ltb w FAR h)

  module _ (up down : ℕ) where
    pub valued-steep : STEEPEST < (up - down) + (down - up) → valued (number m w (pos up -ℤ pos down)) ≡ OutsideClass R.Number
    valued-steep h = simp (lt-leb (nat_abs (pos up -ℤ pos down)) STEEPEST (omega (arith, difference-size up down)), and-false)

  -- an exponent that is too large for the class is so however many digits follow the point
  pub alike-up : (x y places : ℕ) → places + STEEPEST < FAR → Alike x y → valued (number m w (pos x -ℤ pos places)) ≡ valued (number m w (pos y -ℤ pos places))
  alike-up x y p h (inl q) = ap (λ (n : ℕ). valued (number m w (pos n -ℤ pos p))) q
  alike-up x y p h (inr q) = valued-steep x p (omega arith) ∙ sym (valued-steep y p (omega arith))

  pub alike-down : (x y : ℕ) → Alike x y → valued (number m w (pos 0 -ℤ pos x)) ≡ valued (number m w (pos 0 -ℤ pos y))
  alike-down x y (inl q) = ap (λ (n : ℕ). valued (number m w (pos 0 -ℤ pos n))) q
  alike-down x y (inr q) = valued-steep 0 x (omega arith) ∙ sym (valued-steep 0 y (omega arith))

pub alike-number : (m : Bool) (w v : ℕ) (k : ℤ) → Alike w v → valued (number m w k) ≡ valued (number m v k)
alike-number m w v k (inl q) = ap (λ (n : ℕ). valued (number m n k)) q
alike-number m w v k (inr q) = valued-large m w k (omega arith) ∙ sym (valued-large m v k (omega arith))

-- what is worth the same still is behind a test
pub either : (t : Bool) (x x' y y' : Written) → valued x ≡ valued x' → valued y ≡ valued y' → valued (if t then x else y) ≡ valued (if t then x' else y')
either true x x' y y' e f = e
either false x x' y y' e f = f
