-- A loop that goes up a list of words: what is left at place i is the word there and what is left at i + 1. Assumes nothing.
use mathlib.Core.Path.{◌≡◌, sym, ap, ◌∙◌}
use mathlib.Core.Bool.{true, false}
use mathlib.Core.List.{List, [], ◌∷◌}
use Prim.Native.Nat.{ℕ, ◌+◌, ◌-◌, ◌≤◌, ◌<◌}
use native.Mathlib.Numerals.{add-one}
use native.Mathlib.Nat.{le_refl}
use native.Mathlib.Omega.{arith}
use borrow.Author.Tests.{lt-ltb, le-ltb}
use lib.ListN.{length, take, drop, get_or, length-drop}
use lib.Seq.{drop-cons, drop-length, take_all}
use Rattle.words.specs.Halves.{lower, upper, sum, place, distinct}

pub drop-next : {A : Type 0} (ws : List A) (i : ℕ) (d : A) → i < length ws → drop i ws ≡ get_or ws i d ∷ drop (i + 1) ws
drop-next ws i d h = rw (add-one, drop-cons ws i d)

pub drop-end : {A : Type 0} (ws : List A) (i : ℕ) → i ≤ length ws → length ws ≤ i → drop i ws ≡ []
drop-end ws i h k = let e : i ≡ length ws = omega arith in rw (e, drop-length)

-- the part from place a to the end is what is left at a
pub rest_part : {A : Type 0} (ws : List A) (a : ℕ) → take (length ws - a) (drop a ws) ≡ drop a ws
rest_part ws a = take_all (length ws - a) (drop a ws) (rw length-drop (le_refl _))

-- ---- the sum of the lower numbers

pub sum-next : (ws : List ℕ) (i : ℕ) → i < length ws → sum (drop i ws) ≡ lower (get_or ws i 0) + sum (drop (i + 1) ws)
unfolding sum
sum-next ws i h = ap sum (drop-next ws i 0 h)

-- ---- repeats

module _ (ws : List ℕ) (i : ℕ) (h : i < length ws) where
  abbrev rest : List ℕ
  rest = drop (i + 1) ws

  pub distinct-next : length rest ≤ place (upper (get_or ws i 0)) rest → distinct rest ≡ distinct (drop i ws)
  unfolding distinct
  distinct-next k = sym (ap distinct (drop-next ws i 0 h) ∙ rw (le-ltb _ _ k))

  pub distinct-stop : place (upper (get_or ws i 0)) rest < length rest → false ≡ distinct (drop i ws)
  unfolding distinct
  distinct-stop k = sym (ap distinct (drop-next ws i 0 h) ∙ rw (lt-ltb _ _ k))

pub distinct-end : (ws : List ℕ) (i : ℕ) → i ≤ length ws → length ws ≤ i → true ≡ distinct (drop i ws)
unfolding distinct
distinct-end ws i h k = sym (ap distinct (drop-end ws i h k))
