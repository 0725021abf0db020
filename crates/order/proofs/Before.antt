-- What std's order of slices says of two lists in this crate's words: which stands before, and whether they are equal. Assumes nothing.
use mathlib.Core.Path.{◌≡◌, refl, sym, ap, ◌∙◌}
use mathlib.Core.Bool.{Bool, true, false, ◌&&◌, ◌||◌, cond}
use mathlib.Core.List.{List, [], ◌∷◌}
use Prim.Native.Nat.{ℕ}
use lib.Dec.{eqb, ltb}
use Rattle.std.specs.Ordering.{is_lt, is_eq, nat_cmp, ordering_then}
use Rattle.std.specs.declared.cmp.Ordering.{Ordering}
use Rattle.std.specs.declared.cmp.Ordering.TheVariants.{Less, Equal, Greater}
use Rattle.std.specs.Cmp.Lexicographic.{slice_cmp}
use Rattle.std.proofs.lemmas.Map.Text.{is_eq-slice_cmp}
use Rattle.plain.specs.Lists.{equal}
use Rattle.words.proofs.Chains.{pointwise-equal}
use Rattle.order.specs.Order.{before}

is_lt-before : (xs ys : List ℕ) → is_lt (slice_cmp nat_cmp xs ys) ≡ before xs ys
unfolding before
is_lt-before [] [] = refl
is_lt-before [] (y ∷ ys) = refl
is_lt-before (x ∷ xs) [] = refl
is_lt-before (x ∷ xs) (y ∷ ys) = by (ltb x y) (eqb x y) (is_lt-before xs ys)
  where
    by : (a b : Bool) → is_lt (slice_cmp nat_cmp xs ys) ≡ before xs ys
        → is_lt (ordering_then (cond a Less (cond b Equal Greater)) (slice_cmp nat_cmp xs ys)) ≡ a || (b && before xs ys)
    by true b r = refl
    by false true r = r
    by false false r = refl

module _ (xs ys : List ℕ) (o : Ordering) (e : o ≡ slice_cmp nat_cmp xs ys) where
  pub before-by : before xs ys ≡ is_lt o
  before-by = sym (ap is_lt e ∙ is_lt-before xs ys)

  pub equal-by : equal xs ys ≡ is_eq o
  equal-by = sym (ap is_eq e ∙ is_eq-slice_cmp xs ys ∙ pointwise-equal xs ys)
