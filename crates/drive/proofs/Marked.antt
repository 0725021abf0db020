-- The marked cases, by computing the two products that settle each: past a position that is above the angle, all are. Assumes nothing.
use Prim.Native.Nat.{ℕ, suc, ◌<◌}
use native.Mathlib.Omega.{arith}
use mathlib.Core.Path.{◌≡◌, refl, sym}
use mathlib.Core.Bool.{true, false}
use lib.Dec.{lit<}
use lib.Ieee.{Float, of_bits, of_int, round, mul, div, le, lt, eq}
use Rattle.plain.specs.Doubles.{printed}
use Rattle.plain.proofs.Tests.{true-false}
use Rattle.angle.specs.Range.{InTurn}
use Rattle.drive.specs.Ring.{ringed, double, spacing, angle_at, reached, Position}
use Rattle.drive.specs.Marked.{LAST, Marked}
use Rattle.drive.proofs.Products.{past-above}
use Rattle.drive.proofs.Positions.{bounds}

-- n is the position where its product is not above the angle and the next one, if there is one, is
settled : (ring : ℕ) (w : Float) → ringed ring ≡ true → InTurn w → (n : ℕ) → n < ring → reached ring w n ≡ true → (suc n < ring → reached ring w (suc n) ≡ false) → Position ring w n
settled ring w e t n l r a =
    let b = bounds ring e in
    let p = b.least in
    record { below = l; not_above = r; largest = λ k g h. past-above ring (omega arith) b.most w t (suc n) k g h (a (omega arith)) }

in-turn-216 : InTurn (double 216)
unfolding printed of_int round le lt eq
in-turn-216 = record { low = refl; high = refl; zero = λ z. true-false (sym z) }

in_turn_last : InTurn LAST
unfolding printed of_bits round le lt eq
in_turn_last = record { low = refl; high = refl; zero = λ z. true-false (sym z) }

pub marked : Marked
unfolding angle_at spacing of_int of_bits round mul div le lt eq
marked = record {
  multiple = settled 35 (double 216) refl in-turn-216 20 (lit< tt) refl (λ h. refl);
  above = refl;
  last = settled 39 LAST refl in_turn_last 38 (lit< tt) refl (λ h. absurd (omega arith));
  past = refl;
}
