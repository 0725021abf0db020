-- A move is no longer than half the ring, and forward where it is half of it: the two ways round make the ring together. A move of 0 is
-- staying. Assumes nothing.
use Prim.Native.Nat.{ℕ, zero, suc, ◌*◌, ◌≤◌, ◌<◌}
use native.Mathlib.Omega.{arith}
use mathlib.Core.Logic.{◌↔◌}
use mathlib.Core.Path.{◌≡◌, refl, subst}
use mathlib.Core.Bool.{Bool, true, false}
use borrow.Author.Tests.{leb-true, leb-false}
use lib.Dec.{leb}
use lib.IntN.{ℤ, pos, neg_ℤ}
use Rattle.drive.specs.Move.{Move, length, ahead}
use Rattle.drive.proofs.Integers.{Around, straight, over, short, around, none}
use Rattle.drive.proofs.Moves.{Ways, here, up, down, ways, forward-move, back-move, move-unique}

-- above −N/2 and at most N/2
pub record InHalf (ring : ℕ) (m : ℤ) : Type 0 where
  pub half : 2 * length m ≤ ring
  pub half_forward : 2 * length m ≡ ring → m ≡ pos (length m)

ahead-half : (ring f : ℕ) → 2 * f ≤ ring → InHalf ring (pos f)
ahead-half ring f h = record { half = h; half_forward = λ e. refl }

back-half : (ring b : ℕ) → 2 * b < ring → InHalf ring (neg_ℤ (pos b))
back-half ring zero h = record { half = omega arith; half_forward = λ e. refl }
back-half ring (suc b) h = record { half = omega arith; half_forward = λ e. absurd (omega arith) }

module _ (ring p t : ℕ) (P : p < ring) (T : t < ring) where
  no_longer : (f b : ℕ) → Ways ring p t f b → f ≤ b → 2 * f ≤ ring
  no_longer f b (here u v w) h = omega arith
  no_longer f b (up u v w) h = omega arith
  no_longer f b (down u v w) h = omega arith

  shorter : (f b : ℕ) → Ways ring p t f b → b < f → 2 * b < ring
  shorter f b (here u v w) h = omega arith
  shorter f b (up u v w) h = omega arith
  shorter f b (down u v w) h = omega arith

  by_way : (f b : ℕ) → Ways ring p t f b → (m : ℤ) → Move ring p t m → (x : Bool) → leb f b ≡ x → InHalf ring m
  by_way f b w m h true e =
      let l = leb-true f b e in
      subst (InHalf ring) (move-unique ring p t (pos f) m (forward-move ring p t P T f b w l) h) (ahead-half ring f (no_longer f b w l))
  by_way f b w m h false e =
      let l = leb-false f b e in
      subst (InHalf ring) (move-unique ring p t (neg_ℤ (pos b)) m (back-move ring p t P T f b w l) h) (back-half ring b (shorter f b w l))

  pub move-in-half : (m : ℤ) → Move ring p t m → InHalf ring m
  move-in-half m h = by_way (ahead ring p t) (ahead ring t p) (ways ring p t P T) m h (leb (ahead ring p t) (ahead ring t p)) refl

  -- a move of 0 is staying, and nothing else
  stay : p ≡ t → Move ring p t (pos 0)
  stay e = record {
    arrives = record { turns = pos 0; meets = none ring p t (pos 0) (omega arith) };
    shortest = λ k a. omega arith;
    forward = λ a. refl;
  }

  from-nought : Around ring p t 0 0 → p ≡ t
  from-nought (straight e) = omega arith
  from-nought (over x g e) = absurd (omega arith)
  from-nought (short x g e) = absurd (omega arith)

  stayed : (m : ℤ) → Move ring p t m → m ≡ pos 0 → p ≡ t
  stayed m h e = let g : Move ring p t (pos 0) = subst (Move ring p t) e h in from-nought (around ring p t (pos 0) g.arrives.turns g.arrives.meets)

  pub stays : (m : ℤ) → Move ring p t m → (m ≡ pos 0) ↔ (p ≡ t)
  stays m h = (stayed m h, λ e. move-unique ring p t m (pos 0) h (stay e))
