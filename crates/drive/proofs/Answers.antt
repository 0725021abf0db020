-- The answers of the two calls meet their contracts, a case of each record for a way out; and what an answer that is given says. Assumes nothing.
use Prim.Native.Nat.{ℕ, ◌≤◌, ◌<◌}
use native.Mathlib.Omega.{arith}
use mathlib.Core.Path.{◌≡◌, refl, sym, ◌∙◌}
use mathlib.Core.Bool.{Bool, true, false}
use mathlib.Core.List.{List}
use borrow.Author.Tests.{leb-true, leb-false}
use lib.Dec.{leb}
use lib.IntN.{ℤ}
use lib.Ieee.{Float}
use Rattle.std.specs.Prelude.{Result, Ok, Err}
use Rattle.plain.proofs.Tests.{true-false}
use Rattle.refusal.specs.declared.Refusal.{Refusal}
use Rattle.refusal.specs.declared.Refusal.TheVariants.{BadRing, BadPosition}
use Rattle.rotation.specs.declared.matrix.Orientation.{Orientation}
use Rattle.globe.specs.Orientation.{orientation_reply}
use Rattle.globe.specs.declared.source.Source.{Source}
use Rattle.drive.specs.Ring.{ringed, Position}
use Rattle.drive.specs.Move.{Move}
use Rattle.drive.specs.Calls.{PlacedBy, Places, moving, MovedBy, Steps}

clash : {X : Type 0} → ◌≡◌ {A = ℕ} 0 1 → X
clash e = absurd (omega arith)

module _ (source : Source) (m : List ℕ) (code : ℕ) (epoch : Float) (ring : ℕ) where
  -- ---- `position`
  pub place-no-ring : ringed ring ≡ false → Places source m code epoch ring (Err BadRing)
  place-no-ring e = record { bad_ring = λ h. refl; answered = λ h. true-false (sym h ∙ e) }

  pub place-refused : ringed ring ≡ true → (x : Refusal) → orientation_reply source m code epoch ≡ Err x → Places source m code epoch ring (Err x)
  place-refused e x q = record { bad_ring = λ h. true-false (sym e ∙ h); answered = λ h. rw q }

  pub place_at : ringed ring ≡ true → (o : Orientation) (n : ℕ) → orientation_reply source m code epoch ≡ Ok o → Position ring o.w n → Places source m code epoch ring (Ok n)
  place_at e o n q p = record { bad_ring = λ h. true-false (sym e ∙ h); answered = λ h. rw q p }

  -- a position that is answered is on the ring
  at-below : (x : Result Orientation Refusal) (n : ℕ) → PlacedBy ring x (Ok n) → n < ring
  at-below (Err y) n p = let z : ◌≡◌ {A = ℕ} 0 1 = cc in clash z
  at-below (Ok o) n p = p.below

  pub place-below : ringed ring ≡ true → (n : ℕ) → Places source m code epoch ring (Ok n) → n < ring
  place-below e n p = at-below (orientation_reply source m code epoch) n (p.answered e)

  pub placed-there : (n : ℕ) → Places source m code epoch ring (Ok n) → (ringed ring ≡ true) × (n < ring)
  placed-there n p = by (ringed ring) refl
    where
      by : (b : Bool) → ringed ring ≡ b → (ringed ring ≡ true) × (n < ring)
      by true e = (e, place-below e n p)
      by false e = let h = p.bad_ring e in let z : ◌≡◌ {A = ℕ} 0 1 = cc in clash z

  -- ---- `step`
  module _ (present : ℕ) where
    pub step-no-ring : ringed ring ≡ false → Steps source m code epoch ring present (Err BadRing)
    step-no-ring e = record { bad_ring = λ h. refl; bad_position = λ h g. true-false (sym h ∙ e); answered = λ h g. true-false (sym h ∙ e) }

    pub step-no-position : ringed ring ≡ true → ring ≤ present → Steps source m code epoch ring present (Err BadPosition)
    step-no-position e l = record { bad_ring = λ h. true-false (sym e ∙ h); bad_position = λ h g. refl; answered = λ h g. absurd (omega arith) }

    moved-refused : (x : Result Orientation Refusal) (y : Refusal) → PlacedBy ring x (Err y) → MovedBy ring present x (Err y)
    moved-refused (Err q) y p = cc
    moved-refused (Ok o) y p = p

    pub step-refused : ringed ring ≡ true → present < ring → (y : Refusal) → Places source m code epoch ring (Err y) → Steps source m code epoch ring present (Err y)
    step-refused e l y p = record {
      bad_ring = λ h. true-false (sym e ∙ h);
      bad_position = λ h g. absurd (omega arith);
      answered = λ h g. moved-refused (orientation_reply source m code epoch) y (p.answered e);
    }

    moved_to : (x : Result Orientation Refusal) (n : ℕ) (k : ℤ) → PlacedBy ring x (Ok n) → Move ring present n k → MovedBy ring present x (moving n k)
    moved_to (Err y) n k p q = let z : ◌≡◌ {A = ℕ} 0 1 = cc in clash z
    moved_to (Ok o) n k p q = (p, q)

    pub step-to : ringed ring ≡ true → present < ring → (n : ℕ) (k : ℤ) → Places source m code epoch ring (Ok n) → Move ring present n k → Steps source m code epoch ring present (moving n k)
    step-to e l n k p q = record {
      bad_ring = λ h. true-false (sym e ∙ h);
      bad_position = λ h g. absurd (omega arith);
      answered = λ h g. moved_to (orientation_reply source m code epoch) n k (p.answered e) q;
    }

    -- a move that is answered leads to the position, on a ring that the present position is on
    there : (x : Result Orientation Refusal) (n : ℕ) (k : ℤ) → MovedBy ring present x (moving n k) → PlacedBy ring x (Ok n) × Move ring present n k
    there (Err q) n k p = let z : ◌≡◌ {A = ℕ} 0 1 = cc in clash z
    there (Ok o) n k p = p

    pub moved-there : (n : ℕ) (k : ℤ) → Steps source m code epoch ring present (moving n k) → Places source m code epoch ring (Ok n) × ((present < ring) × Move ring present n k)
    moved-there n k p = by (ringed ring) (leb ring present) refl refl
      where
        by : (b c : Bool) → ringed ring ≡ b → leb ring present ≡ c → Places source m code epoch ring (Ok n) × ((present < ring) × Move ring present n k)
        by false c e g = let h = p.bad_ring e in let z : ◌≡◌ {A = ℕ} 0 1 = cc in clash z
        by true true e g = let h = p.bad_position e (leb-true ring present g) in let z : ◌≡◌ {A = ℕ} 0 1 = cc in clash z
        by true false e g =
            let l = leb-false ring present g in
            let h = there (orientation_reply source m code epoch) n k (p.answered e l) in
            (record { bad_ring = λ f. true-false (sym e ∙ f); answered = λ f. h.0 }, (l, h.1))
