-- `write_doubled` meets its contract: after i turns the first i bytes are written. Assumes nothing.
use mathlib.Core.Path.{◌≡◌, sym, subst}
use mathlib.Core.List.{List, [], ◌∷◌, ◌++◌}
use Prim.Native.Nat.{ℕ, ◌+◌, ◌<◌}
use lib.ListN.{drop, get_or}
use Rattle.value.specs.Strings.{doubled}
use Rattle.words.specs.Over.{part}
use Rattle.words.specs.Placed.{Room, Writes}
use Rattle.words.proofs.Placed.{writes_nothing, writes-same, room-first, room-then, writes_then}
use Rattle.octets.specs.Octets.{octets}
use Rattle.pen.specs.Quoted.{Doubling}
use Rattle.pen.proofs.Doubled.{doubled-next, doubled-split}
use Rattle.pen.proofs.quoted.write_doubled.Invariants.{firsts}
use Rattle.pen.proofs.quoted.write_doubled.Goals as goal

module _ (at : ℕ) (ws : List ℕ) (from n : ℕ) (out : List ℕ) (D : Doubling at ws from n out) (i : ℕ) (h : i < n)
    (end : ℕ) (now : List ℕ) (w : Writes at (firsts ws from n i) out end now) (b : ℕ) (e : b ≡ get_or (octets ws) (from + i) 0) where
  room-byte : Room end (doubled (b ∷ [])) now
  room-byte =
      let rest = doubled (drop (i + 1) (part from n (octets ws))) in
      room-first (doubled (b ∷ [])) rest
      (room-then (firsts ws from n i) (doubled (b ∷ []) ++ rest)
      (subst (λ (l : List ℕ). Room at l out) (doubled-split ws from n D.bytes i h b e) D.room) w)

  one_more : {s : ℕ} {o : List ℕ} → Writes end (doubled (b ∷ [])) now s o → Writes at (firsts ws from n (i + 1)) out s o
  one_more v = writes-same (sym (doubled-next ws from n D.bytes i h b e)) (writes_then (firsts ws from n i) (doubled (b ∷ [])) w v)

pub loop-i-init : goal.loop-i-init
loop-i-init c = writes_nothing _ _

pub write_inside-end-requires : goal.write_inside-end-requires
write_inside-end-requires c =
    room-byte _ _ _ _ _ c.requires c.loop-i.i c.loop-i-test.true _ _ c.loop-i.invariant _ c.byte_at.ensures

pub loop-i-preserved : goal.loop-i-preserved
loop-i-preserved c =
    one_more _ _ _ _ _ c.requires c.loop-i.i c.loop-i-test.true _ _ c.loop-i.invariant _ c.byte_at.ensures c.write_inside-end.ensures
