-- `move_between` meets its contract: of the two ways round it takes the shorter, and the one forward where they are as long. Assumes nothing.
use mathlib.Core.Path.{◌≡◌}
use Prim.Native.Nat.{ℕ, ◌≤◌, ◌<◌}
use native.Mathlib.Omega.{arith}
use lib.IntN.{ℤ, pos, neg_ℤ}
use Rattle.drive.specs.Ring.{MOST}
use Rattle.drive.specs.Move.{Move, ahead}
use Rattle.drive.proofs.Moves.{ways, ahead-short, forward-move, back-move}
use Rattle.drive.proofs.Signed.{plain_fits, plain-is, minus-fits, minus_is}
use Rattle.drive.proofs.way.move_between.Goals as goal

-- each way fits
short : (ring p t r : ℕ) → (ring ≤ MOST) × ((p < ring) × (t < ring)) → r ≡ ahead ring p t → r ≤ MOST
short ring p t r h e = let g = ahead-short ring p t h.1.0 h.1.1 in omega arith

module _ (ring p t f b : ℕ) (h : (ring ≤ MOST) × ((p < ring) × (t < ring))) (F : f ≡ ahead ring p t) (B : b ≡ ahead ring t p) where
  go-forward : (m : ℤ) → f ≤ b → m ≡ pos f → Move ring p t m
  go-forward m l e = rw e (forward-move ring p t h.1.0 h.1.1 f b (rw (F, B) (ways ring p t h.1.0 h.1.1)) l)

  go-back : (m : ℤ) → b < f → m ≡ neg_ℤ (pos b) → Move ring p t m
  go-back m l e = rw e (back-move ring p t h.1.0 h.1.1 f b (rw (F, B) (ways ring p t h.1.0 h.1.1)) l)

pub overflow_cast-result : goal.overflow_cast-result
overflow_cast-result c = plain_fits _ (short c.args.ring c.args.present c.args.target _ c.requires c.go_ahead-forward.ensures)

pub returns-then-forward-back : goal.returns-then-forward-back
returns-then-forward-back c =
    let F = c.go_ahead-forward.ensures in
    go-forward c.args.ring c.args.present c.args.target _ _ c.requires F c.go_ahead-back.ensures _ (omega (arith, c.if-forward-back.true))
    (plain-is _ (short c.args.ring c.args.present c.args.target _ c.requires F))

pub overflow_cast-result-else-forward-back : goal.overflow_cast-result-else-forward-back
overflow_cast-result-else-forward-back c = plain_fits _ (short c.args.ring c.args.target c.args.present _ (c.requires.0, (c.requires.1.1, c.requires.1.0)) c.go_ahead-back.ensures)

pub overflow_sub-result : goal.overflow_sub-result
overflow_sub-result c = minus-fits _ (short c.args.ring c.args.target c.args.present _ (c.requires.0, (c.requires.1.1, c.requires.1.0)) c.go_ahead-back.ensures)

pub returns-else-forward-back : goal.returns-else-forward-back
returns-else-forward-back c =
    let B = c.go_ahead-back.ensures in
    go-back c.args.ring c.args.present c.args.target _ _ c.requires c.go_ahead-forward.ensures B _ (omega (arith, c.if-forward-back.false))
    (minus_is _ (short c.args.ring c.args.target c.args.present _ (c.requires.0, (c.requires.1.1, c.requires.1.0)) B))
