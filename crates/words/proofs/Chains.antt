-- What std's chains say of a list, in this crate's words: a test of all, a sum, a place, two lists compared. Assumes nothing.
use mathlib.Core.Path.{◌≡◌, refl, sym, ◌∙◌}
use mathlib.Core.Bool.{Bool, true, false, not, cond, ◌&&◌}
use mathlib.Core.List.{List, [], ◌∷◌}
use Prim.Native.Nat.{ℕ, suc, ◌+◌, ◌<◌, ◌≤◌}
use native.Mathlib.Omega.{arith}
use borrow.Author.Tests.{ltb-true, ltb-false}
use lib.Dec.{eqb, ltb}
use lib.ListN.{length}
use Rattle.std.specs.Prelude.{if◌then◌else◌, Some, None}
use Rattle.std.specs.Option.{is_some}
use Rattle.std.specs.List.{list_all, sum_by, fold, position_or_len}
use Rattle.std.specs.Cmp.Lexicographic.{pointwise}
use Rattle.plain.specs.Lists.{equal}
use Rattle.words.specs.Halves.{upper, lower, sum, place, found, all}

pub list_all-all : {A : Type 0} (p : A → Bool) (xs : List A) → list_all p xs ≡ all p xs
unfolding all
list_all-all p [] = refl
list_all-all p (x ∷ xs) = by (p x) (list_all-all p xs)
  where
    by : (b : Bool) → list_all p xs ≡ all p xs → (b && list_all p xs) ≡ (if b then all p xs else false)
    by true e = e
    by false e = refl

folded : (ws : List ℕ) (n : ℕ) → fold (λ a w. a + lower w) n ws ≡ n + sum ws
unfolding sum
folded [] n = omega arith
folded (w ∷ ws) n = omega (arith, folded ws (n + lower w))

pub sum_by-lower : (ws : List ℕ) → sum_by lower ws ≡ sum ws
sum_by-lower ws = omega (arith, folded ws 0)

pub position-place : (u : ℕ) (ws : List ℕ) → position_or_len (λ w. eqb (upper w) u) ws ≡ place u ws
unfolding place
position-place u [] = refl
position-place u (w ∷ ws) = by (eqb (upper w) u) (position-place u ws)
  where
    by : (b : Bool) → position_or_len (λ w. eqb (upper w) u) ws ≡ place u ws → cond (not b) (1 + position_or_len (λ w. eqb (upper w) u) ws) 0 ≡ (if b then 0 else suc (place u ws))
    by true e = refl
    by false e = omega (arith, e)

pub pointwise-equal : (xs ys : List ℕ) → pointwise eqb xs ys ≡ equal xs ys
unfolding equal
pointwise-equal [] [] = refl
pointwise-equal [] (y ∷ ys) = refl
pointwise-equal (x ∷ xs) [] = refl
pointwise-equal (x ∷ xs) (y ∷ ys) = rw (pointwise-equal xs ys)

-- ---- what is found, and where

by-found : (b : Bool) (k : ℕ) → is_some (if b then Some k else None) ≡ b
by-found true k = refl
by-found false k = refl

pub found-within : (u : ℕ) (ws : List ℕ) → is_some (found u ws) ≡ true → place u ws < length ws
found-within u ws e = ltb-true _ _ (sym (by-found (ltb (place u ws) (length ws)) (place u ws)) ∙ e)

pub found-beyond : (u : ℕ) (ws : List ℕ) → is_some (found u ws) ≡ false → length ws ≤ place u ws
found-beyond u ws e = ltb-false _ _ (sym (by-found (ltb (place u ws) (length ws)) (place u ws)) ∙ e)
