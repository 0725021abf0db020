-- The drive sees the pool only through the orientation: where two pools orient a body alike, one answer meets the contracts of both, and no second
-- one does. Assumes nothing.
use Prim.Native.Nat.{ℕ}
use mathlib.Core.Path.{◌≡◌, sym, subst}
use mathlib.Core.Bool.{true}
use mathlib.Core.List.{List}
use lib.Ieee.{Float}
use Rattle.std.specs.Prelude.{Result}
use Rattle.layout.specs.Memory.{decode}
use Rattle.layout.specs.Damage.{sound}
use Rattle.globe.specs.Orientation.{orientation_reply}
use Rattle.globe.specs.declared.source.Source.{Source}
use Rattle.promises.specs.Calls as C
use Rattle.promises.specs.Calls.{asked}
use Rattle.drive.specs.declared.answer.Motion.{Motion}
use Rattle.drive.specs.Calls.{PlacedBy, Places, MovedBy, Steps}
use Rattle.drive.proofs.Once.{places-once, steps-once}
use Rattle.reads.specs.Names.{orientation_of}
use Rattle.unread.specs.Unread.{Alike, DriveUnread}
use Rattle.rotation.specs.declared.matrix.Orientation.{Orientation}
use Rattle.refusal.specs.declared.Refusal.{Refusal}
use Rattle.unread.proofs.Calls.{independent}

module _ (source : Source) (m m' : List ℕ) (code : ℕ) (epoch : Float) where
  module _ (u : sound m ≡ true) (u' : sound m' ≡ true) (a : Alike (orientation_of source code epoch) (decode m) (decode m')) where
    same-reply : orientation_reply source m' code epoch ≡ orientation_reply source m code epoch
    unfolding asked
    same-reply = inner (sym (independent (orientation_of source code epoch) m m' u u' a))
      where
        inner : {x y : Result Orientation Refusal} → C.oriented x ≡ C.oriented y → x ≡ y
        inner e = cc

    same-position : (ring : ℕ) (r r' : Result ℕ Refusal) → Places source m code epoch ring r → Places source m' code epoch ring r' → r ≡ r'
    same-position ring r r' p q =
        places-once source m code epoch ring r r' p
        (record { bad_ring = q.bad_ring; answered = λ e. subst (λ (x : Result Orientation Refusal). PlacedBy ring x r') same-reply (q.answered e) })

    same_move : (ring present : ℕ) (r r' : Result Motion Refusal) → Steps source m code epoch ring present r → Steps source m' code epoch ring present r' → r ≡ r'
    same_move ring present r r' p q =
        steps-once source m code epoch ring present r r' p
        (record {
          bad_ring = q.bad_ring;
          bad_position = q.bad_position;
          answered = λ e l. subst (λ (x : Result Orientation Refusal). MovedBy ring present x r') same-reply (q.answered e l);
        })

pub drive-unread : DriveUnread
drive-unread = record {
  position = λ source m m' code epoch ring u u' a. same-position source m m' code epoch u u' a ring;
  move = λ source m m' code epoch ring present u u' a. same_move source m m' code epoch u u' a ring present;
}
