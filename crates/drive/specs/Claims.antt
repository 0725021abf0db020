-- What is claimed of the drive: each question has one answer, in its range; the refusals stand in their order. Definitions only.
use Rattle.std.specs.Prelude.{ℕ, ◌*◌, ◌≤◌, ◌<◌, ◌↔◌, ◌≡◌, true, false, List, ℤ, pos, Float, Ok, Err}
use Rattle.refusal.specs.declared.Refusal.{Refusal}
use Rattle.refusal.specs.declared.Refusal.TheVariants.{BadRing, BadPosition}
use Rattle.rotation.specs.declared.matrix.Orientation.{Orientation}
use Rattle.globe.specs.Orientation.{orientation_reply}
use Rattle.globe.specs.declared.source.Source.{Source}
use Rattle.drive.specs.Ring.{ringed, Position}
use Rattle.drive.specs.Move.{Move, length}
use Rattle.drive.specs.Calls.{Places, moving, Steps}

-- there is one of the kind, and no second
pub record ExactlyOne {A : Type 0} (Kind : A → Type 0) : Type 0 where
  pub one : A
  pub is : Kind one
  pub only : (other : A) → Kind other → other ≡ one

-- every meridian that the library gives has exactly one position on every ring
abbrev pub OnePosition : Type 0
OnePosition =
    (source : Source) (m : List ℕ) (code : ℕ) (epoch : Float) (ring : ℕ) (o : Orientation) → ringed ring ≡ true
    → orientation_reply source m code epoch ≡ Ok o → ExactlyOne (Position ring o.w)

-- from every position of a ring exactly one move leads to every other; it is above −N/2 and at most N/2, and it is 0 exactly when both
-- positions are one
pub record Moving (ring present target : ℕ) : Type 0 where
  pub move : ExactlyOne (Move ring present target)
  pub half : (m : ℤ) → Move ring present target m → 2 * length m ≤ ring
  pub half_forward : (m : ℤ) → Move ring present target m → 2 * length m ≡ ring → m ≡ pos (length m)
  pub stays : (m : ℤ) → Move ring present target m → (m ≡ pos 0) ↔ (present ≡ target)

abbrev pub OneMove : Type 0
OneMove = (ring present target : ℕ) → present < ring → target < ring → Moving ring present target

-- on every input each call has exactly one answer that meets its contract
pub record Fixed (source : Source) (m : List ℕ) (code : ℕ) (epoch : Float) (ring present : ℕ) : Type 0 where
  pub position : ExactlyOne (Places source m code epoch ring)
  pub step : ExactlyOne (Steps source m code epoch ring present)

abbrev pub OneAnswer : Type 0
OneAnswer = (source : Source) (m : List ℕ) (code : ℕ) (epoch : Float) (ring present : ℕ) → Fixed source m code epoch ring present

-- a position that is answered is one of the ring's, and a move leads to it from the present one
pub record Answered (source : Source) (m : List ℕ) (code : ℕ) (epoch : Float) (ring present : ℕ) : Type 0 where
  pub position : (n : ℕ) → Places source m code epoch ring (Ok n) → (ringed ring ≡ true) × (n < ring)
  pub target :
      (n : ℕ) (k : ℤ) → Steps source m code epoch ring present (moving n k)
      → Places source m code epoch ring (Ok n) × ((present < ring) × Move ring present n k)

abbrev pub InRing : Type 0
InRing = (source : Source) (m : List ℕ) (code : ℕ) (epoch : Float) (ring present : ℕ) → Answered source m code epoch ring present

-- "25 BAD RING, then 26 BAD POSITION .., both before the library's own": whatever the library answers, its 15 and 9 too
pub record Refusing (source : Source) (m : List ℕ) (code : ℕ) (epoch : Float) (ring present : ℕ) : Type 0 where
  pub no_ring : ringed ring ≡ false → Places source m code epoch ring (Err BadRing) × Steps source m code epoch ring present (Err BadRing)
  pub no_position : ringed ring ≡ true → ring ≤ present → Steps source m code epoch ring present (Err BadPosition)
  pub library :
      (q : Refusal) → orientation_reply source m code epoch ≡ Err q → ringed ring ≡ true
      → Places source m code epoch ring (Err q) × (present < ring → Steps source m code epoch ring present (Err q))

abbrev pub InOrder : Type 0
InOrder = (source : Source) (m : List ℕ) (code : ℕ) (epoch : Float) (ring present : ℕ) → Refusing source m code epoch ring present

pub record Drives : Type 0 where
  pub one_position : OnePosition
  pub one_move : OneMove
  pub one_answer : OneAnswer
  pub in_ring : InRing
  pub in_order : InOrder
