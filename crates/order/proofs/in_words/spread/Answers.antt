-- `spread` meets its contract: what is left to write over the bytes is what was to be written over the first. Assumes nothing.
use mathlib.Core.Path.{◌≡◌, sym, ap, ap₂, ◌∙◌}
use mathlib.Core.List.{List}
use Prim.Native.Nat.{ℕ, ◌+◌, ◌*◌, ◌≤◌, ◌<◌}
use native.Mathlib.Omega.{arith}
use lib.ListN.{length, drop, get_or}
use Rattle.words.specs.Over.{over}
use Rattle.words.proofs.Over.{over-nil, over-append, length_over}
use Rattle.words.proofs.Steps.{drop-next, drop-end}
use Rattle.octets.specs.Octets.{bytes_of, octets}
use Rattle.order.proofs.in_words.spread.Goals as goal

-- a turn: eight bytes fewer are left to write
module _ (ws : List ℕ) (i : ℕ) (h : i < length ws) (room eight : List ℕ) (e : eight ≡ bytes_of (get_or ws i 0)) where
  fewer : (after : List ℕ) → after ≡ over (8 * i) eight room → over (8 * (i + 1)) (octets (drop (i + 1) ws)) after ≡ over (8 * i) (octets (drop i ws)) room
  unfolding octets
  fewer after w =
      let n : 8 * (i + 1) ≡ 8 * i + 8 = omega arith in
      ap₂ (λ (k : ℕ) (m : List ℕ). over k (octets (drop (i + 1) ws)) m) n (w ∙ ap (λ (l : List ℕ). over (8 * i) l room) e)
      ∙ sym (over-append (8 * i) (bytes_of (get_or ws i 0)) (octets (drop (i + 1) ws)) room)
      ∙ sym (ap (λ (l : List ℕ). over (8 * i) (octets l) room) (drop-next ws i 0 h))

none_left : (ws : List ℕ) (i : ℕ) (room : List ℕ) → i ≤ length ws → length ws ≤ i → room ≡ over (8 * i) (octets (drop i ws)) room
unfolding octets
none_left ws i room h k = sym (ap (λ (l : List ℕ). over (8 * i) (octets l) room) (drop-end ws i h k) ∙ over-nil (8 * i) room)

pub put-requires : goal.put-requires
put-requires c = omega (arith, ap length c.to_be_bytes.ensures, c.requires, c.loop-i.invariant.0)

pub loop-i-preserved : goal.loop-i-preserved
loop-i-preserved c = (
  ap length c.put.ensures ∙ length_over _ _ _ ∙ c.loop-i.invariant.0,
  fewer c.args.words.now c.loop-i.i c.loop-i-test.true c.loop-i.room c.to_be_bytes.result c.to_be_bytes.ensures _ c.put.ensures
      ∙ c.loop-i.invariant.1,
)

pub returns : goal.returns
returns c =
    let l = c.loop-i in
    none_left c.args.words.now l.i l.room l.auto.i-end c.loop-i-test.false ∙ l.invariant.1
