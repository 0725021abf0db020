-- The two calls: "From source, body and epoch it gives the motor position" and "the move from a present position". "Refusals: 25 BAD RING,
-- then 26 BAD POSITION for a present position of N or more, both before the library's own." Definitions only.
use Rattle.std.specs.Prelude.{ℕ, ◌≤◌, ◌<◌, ◌≡◌, true, false, List, ℤ, Float, Result, Ok, Err}
use Rattle.refusal.specs.declared.Refusal.{Refusal}
use Rattle.refusal.specs.declared.Refusal.TheVariants.{BadRing, BadPosition}
use Rattle.globe.specs.Orientation.{orientation_reply}
use Rattle.globe.specs.declared.source.Source.{Source}
use Rattle.drive.specs.declared.answer.Motion.{Motion}
use Rattle.drive.specs.Ring.{ringed, Position}
use Rattle.rotation.specs.declared.matrix.Orientation.{Orientation}
use Rattle.drive.specs.Move.{Move}

-- a position by what the library answers: its refusal, or the position of the meridian that it gives
abbrev pub PlacedBy : (ring : ℕ) → Result Orientation Refusal → Result ℕ Refusal → Type 0
PlacedBy ring (Err q) r = r ≡ Err q
PlacedBy ring (Ok o) (Ok n) = Position ring o.w n
PlacedBy ring (Ok o) (Err q) = ⊥

-- the whole contract of `position`
pub record Places (source : Source) (memory : List ℕ) (code : ℕ) (epoch : Float) (ring : ℕ) (r : Result ℕ Refusal) : Type 0 where
  pub bad_ring : ringed ring ≡ false → r ≡ Err BadRing
  pub answered : ringed ring ≡ true → PlacedBy ring (orientation_reply source memory code epoch) r

-- a move that is answered
abbrev pub moving : (target : ℕ) (way : ℤ) → Result Motion Refusal
moving n k = Ok (record { target = n; way = k })

-- a move by what the library answers: its refusal, or the move to the position of the meridian that it gives
abbrev pub MovedBy : (ring present : ℕ) → Result Orientation Refusal → Result Motion Refusal → Type 0
MovedBy ring present (Err q) r = r ≡ Err q
MovedBy ring present (Ok o) (Ok m) = Position ring o.w m.target × Move ring present m.target m.way
MovedBy ring present (Ok o) (Err q) = ⊥

-- the whole contract of `step`
pub record Steps (source : Source) (memory : List ℕ) (code : ℕ) (epoch : Float) (ring present : ℕ) (r : Result Motion Refusal) : Type 0 where
  pub bad_ring : ringed ring ≡ false → r ≡ Err BadRing
  pub bad_position : ringed ring ≡ true → ring ≤ present → r ≡ Err BadPosition
  pub answered : ringed ring ≡ true → present < ring → MovedBy ring present (orientation_reply source memory code epoch) r
