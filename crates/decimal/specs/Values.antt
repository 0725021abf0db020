-- Document 02, K4, of every value's bytes and without a word on how the double is found: "The value is the double nearest to the exact w·10^k, ties
-- to the even significand, and this is said over whole numbers: no other double is nearer"; "6 is given exactly outside the new class".
-- Definitions only.
use Rattle.std.specs.Prelude.{ℕ, ◌≡◌, ◌↔◌, Bool, true, false, List, ℤ, Float}
use Rattle.std.specs.Float.{binary64}
use Rattle.plain.specs.Nearest.{Nearest}
use Rattle.refusal.specs.declared.Refusal.TheVariants as R
use Rattle.decimal.specs.Form.{number, written}
use Rattle.decimal.specs.Class.{in_class, top, bottom, signed, reading}
use Rattle.decimal.specs.declared.Reading.TheVariants.{Number, OutsideClass}

-- what is read is the nearest double, negated for a minus; no other double is the nearest
pub record ReadNearest (bs : List ℕ) (minus : Bool) (w : ℕ) (k : ℤ) : Type 0 where
  pub value : Float
  pub nearest : Nearest binary64 (top w k) (bottom k) value
  pub only : (v : Float) → Nearest binary64 (top w k) (bottom k) v → v ≡ value
  pub is_read : reading bs ≡ Number (signed minus value)

-- the bytes have the form of a number that is outside the class
pub record WritesOutside (bs : List ℕ) : Type 0 where
  pub minus : Bool
  pub w : ℕ
  pub k : ℤ
  pub form : written bs ≡ number minus w k
  pub outside : in_class w k ≡ false

pub record Values : Type 0 where
  pub inside : (bs : List ℕ) (minus : Bool) (w : ℕ) (k : ℤ) → written bs ≡ number minus w k → in_class w k ≡ true → ReadNearest bs minus w k
  pub six : (bs : List ℕ) → (reading bs ≡ OutsideClass R.Number) ↔ WritesOutside bs
