-- `show_numbers` meets its contract: after i turns the lines of the first i numbers are written. Assumes nothing.
use mathlib.Core.Path.{◌≡◌, sym, subst}
use mathlib.Core.List.{List, map}
use Prim.Native.Nat.{ℕ, ◌+◌, ◌≤◌, ◌<◌}
use native.Mathlib.Omega.{arith}
use lib.ListN.{length, take, get_or, length-map, get_or-map}
use Rattle.words.specs.Placed.{Room, Writes}
use Rattle.layout.specs.State.{flat}
use Rattle.variables.specs.Variables.{Datum, number}
use Rattle.shown.specs.Shown.{value_line, value_lines}
use Rattle.shown.proofs.Writing.{writes-none, writes-all, room_next, writes-next}
use Rattle.shown.proofs.values.show_numbers.Goals as goal

module _ (ws : List ℕ) (at : ℕ) (out : List ℕ) (i : ℕ) (h : i < length ws) (r : ℕ) (n : List ℕ) (w : Writes at (flat value_line (take i (map number ws))) out r n) where
  within : i < length (map number ws)
  within = omega (arith, length-map ws number)

  here : get_or (map number ws) i (number 0) ≡ number (get_or ws i 0)
  here = get_or-map number ws i 0

  room-line : Room at (value_lines (map number ws)) out → Room r (value_line (number (get_or ws i 0))) n
  unfolding value_lines
  room-line k = subst (λ (v : Datum). Room r (value_line v) n) here (room_next value_line (map number ws) i (number 0) within w k)

  one_line : {s : ℕ} {o : List ℕ} → Writes r (value_line (number (get_or ws i 0))) n s o → Writes at (flat value_line (take (i + 1) (map number ws))) out s o
  one_line {s} {o} v = writes-next value_line (map number ws) i (number 0) within w (subst (λ (v : Datum). Writes r (value_line v) n s o) (sym here) v)

all_lines : (ws : List ℕ) (at : ℕ) (out : List ℕ) (i r : ℕ) (n : List ℕ) → length ws ≤ i → Writes at (flat value_line (take i (map number ws))) out r n → Writes at (value_lines (map number ws)) out r n
unfolding value_lines
all_lines ws at out i r n h w = writes-all value_line (map number ws) i (omega (arith, length-map ws number)) w

pub loop-word-init : goal.loop-word-init
loop-word-init c = writes-none value_line (map number c.args.words.now)

pub write_line-end-requires : goal.write_line-end-requires
write_line-end-requires c =
    room-line c.args.words.now _ _ c.loop-word.word-index c.loop-word-test.true _ _ c.loop-word.invariant c.requires

pub loop-word-preserved : goal.loop-word-preserved
loop-word-preserved c =
    one_line c.args.words.now _ _ c.loop-word.word-index c.loop-word-test.true _ _ c.loop-word.invariant c.write_line-end.ensures

pub returns : goal.returns
returns c = all_lines c.args.words.now _ _ c.loop-word.word-index _ _ c.loop-word-test.false c.loop-word.invariant
