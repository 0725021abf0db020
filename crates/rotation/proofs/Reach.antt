-- An epoch in reach is finite, and so are the days and centuries that it counts. Assumes nothing.
use mathlib.Core.Path.{◌≡◌, sym}
use mathlib.Core.Bool.{Bool, true, false, ◌&&◌, ◌||◌, true≢false}
use mathlib.Core.Logic.{inl, inr}
use Prim.Native.Nat.{ℕ, ◌*◌, ◌≤◌, ◌<◌}
use native.Mathlib.Omega.{arith}
use borrow.Author.Tests.{ltb-true, eqb-true}
use lib.Dec.{eqb, ltb, lit≤}
use lib.Ieee.{Float, nan, inf, fin, up, down, lt, le, eq, neg, round}
use lib.Ieee.Fits.{down_pos}
use Rattle.plain.specs.Doubles.{printed}
use Rattle.plain.specs.Sizes.{Below}
use Rattle.plain.proofs.Tests.{both, or_cases}
use Rattle.plain.proofs.Bounded.{Under, ⊘-under}
use Rattle.rotation.specs.Epochs.{days, centuries, farthest, in_reach}

-- the two tests of `le`, the second with its sides either way round
at_most : (a b u v : ℕ) (t : Bool) → (u ≡ v → a ≡ b) → (ltb a b || (eqb u v && t)) ≡ true → a ≤ b
at_most a b u v t same h = elim (or_cases (ltb a b) (eqb u v && t) h) [
  | inl g ↦ let l : a < b = ltb-true a b g in omega arith
  | inr g ↦ let l : a ≡ b = same (eqb-true u v (both (eqb u v) t g).0) in omega arith
]

between : (x : Float) → le (neg farthest) x ≡ true → le x farthest ≡ true → Below 38 x
unfolding le lt eq printed round neg
between nan a b = absurd (true≢false (sym b))
between (inf true) a b = absurd (true≢false (sym a))
between (inf false) a b = absurd (true≢false (sym b))
between (fin true m e) a b =
    let x = 157788000000 * down e in
    let y = m * up e * 1 in
    let h : y ≤ x = at_most y x x y (true || eqb x 0) sym a in
    let d = down_pos e in
    omega arith
between (fin false m e) a b =
    let x = 157788000000 * down e in
    let y = m * up e * 1 in
    let h : y ≤ x = at_most y x y x (true || eqb y 0) (λ s. s) b in
    let d = down_pos e in
    omega arith

epoch-under : (epoch : Float) → in_reach epoch ≡ true → Under 38 epoch
unfolding in_reach
epoch-under epoch h =
    let a = le (neg farthest) epoch in
    let b = le epoch farthest in
    record { is = between epoch (both a b h).0 (both a b h).1 }

pub days-under : (epoch : Float) → in_reach epoch ≡ true → Under 39 (days epoch).0
unfolding days printed round
days-under epoch h = ⊘-under (printed 86400 0) (lit≤ tt) (lit≤ tt) (epoch-under epoch h)

pub centuries-under : (epoch : Float) → in_reach epoch ≡ true → Under 40 (centuries (days epoch)).0
unfolding centuries printed round
centuries-under epoch h = ⊘-under (printed 36525 0) (lit≤ tt) (lit≤ tt) (days-under epoch h)
