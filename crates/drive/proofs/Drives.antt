-- What is claimed of the drive: existence is the search down from the last position and the shorter of two ways, uniqueness is that no larger
-- position and no shorter way is left; the range of a meridian is the library's promise. Assumes nothing.
use Prim.Native.Nat.{ℕ, ◌<◌}
use native.Mathlib.Omega.{arith}
use mathlib.Core.Path.{◌≡◌, refl}
use mathlib.Core.Bool.{Bool, true, false}
use mathlib.Core.List.{List}
use borrow.Author.Tests.{leb-true, leb-false}
use lib.Dec.{leb}
use lib.Ieee.{Float}
use Rattle.std.specs.Prelude.{Result, Ok, Err}
use Rattle.globe.specs.Orientation.{orientation_reply}
use Rattle.globe.specs.declared.source.Source.{Source}
use Rattle.promises.proofs.Given.{in-range}
use Rattle.drive.specs.declared.answer.Motion.{Motion}
use Rattle.drive.specs.Ring.{ringed}
use Rattle.drive.specs.Calls.{Places, moving, Steps}
use Rattle.drive.specs.Claims.{OnePosition, OneMove, OneAnswer, InRing, InOrder, Drives}
use Rattle.drive.proofs.Positions.{bounds, position-unique, position-exists}
use Rattle.drive.proofs.Moves.{move-unique, move-exists}
use Rattle.drive.proofs.Halves.{move-in-half, stays}
use Rattle.drive.proofs.Answers.{place-no-ring, place-refused, place_at, place-below, step-no-ring, step-no-position, step-refused, step-to, placed-there, moved-there}
use Rattle.rotation.specs.declared.matrix.Orientation.{Orientation}
use Rattle.refusal.specs.declared.Refusal.{Refusal}
use Rattle.drive.proofs.Once.{places-once, steps-once}

pub one-position : OnePosition
one-position source m code epoch ring o e h =
    let b = bounds ring e in
    let l = b.least in
    let p = position-exists ring (omega arith) b.most o.w (in-range source m code epoch o h).w in
    record { one = p.0; is = p.1; only = λ n q. position-unique ring o.w n p.0 q p.1 }

pub one-move : OneMove
one-move ring p t P T =
    let e = move-exists ring p t P T in
    record {
      move = record { one = e.0; is = e.1; only = λ k q. move-unique ring p t k e.0 q e.1 };
      half = λ k q. (move-in-half ring p t P T k q).half;
      half_forward = λ k q. (move-in-half ring p t P T k q).half_forward;
      stays = stays ring p t P T;
    }

-- ---- each call has one answer
module _ (source : Source) (m : List ℕ) (code : ℕ) (epoch : Float) (ring : ℕ) where
  place-exists : (r : Result ℕ Refusal) × Places source m code epoch ring r
  place-exists = by (ringed ring) refl
    where
      from : ringed ring ≡ true → (x : Result Orientation Refusal) → orientation_reply source m code epoch ≡ x → (r : Result ℕ Refusal) × Places source m code epoch ring r
      from e (Err q) h = (Err q, place-refused source m code epoch ring e q h)
      from e (Ok o) h =
          let p = one-position source m code epoch ring o e h in
          (Ok p.one, place_at source m code epoch ring e o p.one h p.is)

      by : (b : Bool) → ringed ring ≡ b → (r : Result ℕ Refusal) × Places source m code epoch ring r
      by false e = (_, place-no-ring source m code epoch ring e)
      by true e = from e (orientation_reply source m code epoch) refl

  module _ (present : ℕ) where
    onward : ringed ring ≡ true → present < ring → (r : Result ℕ Refusal) → Places source m code epoch ring r → (s : Result Motion Refusal) × Steps source m code epoch ring present s
    onward e l (Err q) p = (Err q, step-refused source m code epoch ring present e l q p)
    onward e l (Ok n) p =
        let k = move-exists ring present n l (place-below source m code epoch ring e n p) in
        (moving n k.0, step-to source m code epoch ring present e l n k.0 p k.1)

    step-exists : (s : Result Motion Refusal) × Steps source m code epoch ring present s
    step-exists = by (ringed ring) (leb ring present) refl refl
      where
        by : (b c : Bool) → ringed ring ≡ b → leb ring present ≡ c → (s : Result Motion Refusal) × Steps source m code epoch ring present s
        by false c e g = (_, step-no-ring source m code epoch ring present e)
        by true true e g = (_, step-no-position source m code epoch ring present e (leb-true ring present g))
        by true false e g = onward e (leb-false ring present g) place-exists.0 place-exists.1

pub one-answer : OneAnswer
one-answer source m code epoch ring present =
    let p = place-exists source m code epoch ring in
    let s = step-exists source m code epoch ring present in
    record {
      position = record { one = p.0; is = p.1; only = λ r q. places-once source m code epoch ring r p.0 q p.1 };
      step = record { one = s.0; is = s.1; only = λ r q. steps-once source m code epoch ring present r s.0 q s.1 };
    }

pub in-ring : InRing
in-ring source m code epoch ring present =
    record { position = placed-there source m code epoch ring; target = moved-there source m code epoch ring present }

pub in-order : InOrder
in-order source m code epoch ring present = record {
  no_ring = λ e. (place-no-ring source m code epoch ring e, step-no-ring source m code epoch ring present e);
  no_position = step-no-position source m code epoch ring present;
  library = λ q h e. let p = place-refused source m code epoch ring e q h in (p, λ l. step-refused source m code epoch ring present e l q p);
}

pub drives : Drives
drives = record { one_position = one-position; one_move = one-move; one_answer = one-answer; in_ring = in-ring; in_order = in-order }
