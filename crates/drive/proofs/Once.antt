-- No second answer meets either contract: in each case of the record both are the same refusal, or the position and the move, of which there is
-- one. Assumes nothing.
use Prim.Native.Nat.{ℕ}
use mathlib.Core.Path.{◌≡◌, refl, sym, ap, ap₂, ◌∙◌}
use mathlib.Core.Bool.{Bool, true, false}
use mathlib.Core.List.{List}
use borrow.Author.Tests.{leb-true, leb-false}
use lib.Dec.{leb}
use lib.IntN.{ℤ}
use lib.Ieee.{Float}
use Rattle.std.specs.Prelude.{Result, Ok, Err}
use Rattle.globe.specs.Orientation.{orientation_reply}
use Rattle.globe.specs.declared.source.Source.{Source}
use Rattle.drive.specs.declared.answer.Motion.{Motion}
use Rattle.drive.specs.Ring.{ringed}
use Rattle.drive.specs.Move.{Move}
use Rattle.drive.specs.Calls.{PlacedBy, Places, moving, MovedBy, Steps}
use Rattle.drive.proofs.Positions.{position-unique}
use Rattle.rotation.specs.declared.matrix.Orientation.{Orientation}
use Rattle.refusal.specs.declared.Refusal.{Refusal}
use Rattle.drive.proofs.Moves.{move-unique}

placed-once : (ring : ℕ) (x : Result Orientation Refusal) (r r' : Result ℕ Refusal) → PlacedBy ring x r → PlacedBy ring x r' → r ≡ r'
placed-once ring (Err y) r r' p q = cc
placed-once ring (Ok o) (Ok n) (Ok k) p q = ap Ok (position-unique ring o.w n k p q)
placed-once ring (Ok o) (Ok n) (Err y) p q = absurd q
placed-once ring (Ok o) (Err y) r' p q = absurd p

pub places-once : (source : Source) (m : List ℕ) (code : ℕ) (epoch : Float) (ring : ℕ) (r r' : Result ℕ Refusal)
    → Places source m code epoch ring r → Places source m code epoch ring r' → r ≡ r'
places-once source m code epoch ring r r' p q = by (ringed ring) refl
  where
    by : (b : Bool) → ringed ring ≡ b → r ≡ r'
    by true e = placed-once ring (orientation_reply source m code epoch) r r' (p.answered e) (q.answered e)
    by false e = p.bad_ring e ∙ sym (q.bad_ring e)

same_move : (ring present n n' : ℕ) (k k' : ℤ) → n ≡ n' → Move ring present n k → Move ring present n' k' → moving n k ≡ moving n' k'
same_move ring present n n' k k' e p q =
    let g : k ≡ k' = move-unique ring present n' k k' (rw e at p) q in
    ap₂ moving e g

moved-once : (ring present : ℕ) (x : Result Orientation Refusal) (r r' : Result Motion Refusal) → MovedBy ring present x r → MovedBy ring present x r' → r ≡ r'
moved-once ring present (Err y) r r' p q = cc
moved-once ring present (Ok o) (Ok m) (Ok m') p q =
    same_move ring present m.target m'.target m.way m'.way (position-unique ring o.w m.target m'.target p.0 q.0) p.1 q.1
moved-once ring present (Ok o) (Ok m) (Err y) p q = absurd q
moved-once ring present (Ok o) (Err y) r' p q = absurd p

pub steps-once : (source : Source) (m : List ℕ) (code : ℕ) (epoch : Float) (ring present : ℕ) (r r' : Result Motion Refusal)
    → Steps source m code epoch ring present r → Steps source m code epoch ring present r' → r ≡ r'
steps-once source m code epoch ring present r r' p q = by (ringed ring) (leb ring present) refl refl
  where
    by : (b c : Bool) → ringed ring ≡ b → leb ring present ≡ c → r ≡ r'
    by false c e g = p.bad_ring e ∙ sym (q.bad_ring e)
    by true true e g = let l = leb-true ring present g in p.bad_position e l ∙ sym (q.bad_position e l)
    by true false e g =
        let l = leb-false ring present g in
        moved-once ring present (orientation_reply source m code epoch) r r' (p.answered e l) (q.answered e l)
