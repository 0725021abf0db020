-- Two lists of words are found the same exactly when they are equal. Assumes nothing.
use mathlib.Core.Path.{◌≡◌, refl, sym, ap₂}
use mathlib.Core.Bool.{true}
use mathlib.Core.List.{List, [], ◌∷◌}
use Prim.Native.Nat.{ℕ}
use borrow.Author.Tests.{eqb-true, eq-eqb}
use lib.Dec.{eqb}
use Rattle.plain.specs.Lists.{equal}
use Rattle.plain.proofs.Tests.{both, true-false}

pub same_refl : (xs : List ℕ) → equal xs xs ≡ true
unfolding equal
same_refl [] = refl
same_refl (x ∷ xs) = rw (eq-eqb x x refl) (same_refl xs)

pub same-equal : (xs ys : List ℕ) → equal xs ys ≡ true → xs ≡ ys
unfolding equal
same-equal [] [] e = refl
same-equal [] (y ∷ ys) e = true-false (sym e)
same-equal (x ∷ xs) [] e = true-false (sym e)
same-equal (x ∷ xs) (y ∷ ys) e =
    let b = both (eqb x y) (equal xs ys) e in
    ap₂ (λ (z : ℕ) (zs : List ℕ). z ∷ zs) (eqb-true x y b.0) (same-equal xs ys b.1)
