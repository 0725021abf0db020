-- The names of statements are in byte order, each stands there once, and there are no others. Assumes nothing.
use mathlib.Core.Path.{◌≡◌, refl, sym, ap, ◌∙◌}
use mathlib.Core.Bool.{Bool, true, false, not, ◌&&◌}
use mathlib.Core.List.{List, [], ◌∷◌}
use mathlib.Core.Logic.{◌⊎◌, inl, inr, ⊎_elim}
use Prim.Native.Nat.{ℕ, suc, ◌≤◌, ◌<◌}
use native.Mathlib.Omega.{arith}
use borrow.Author.Tests.{ltb-true, eqb-true}
use lib.Dec.{eqb, ltb}
use lib.ListN.{length}
use Rattle.std.specs.Prelude.{if◌then◌else◌}
use Rattle.plain.specs.Lists.{equal}
use Rattle.plain.proofs.Tests.{or_cases, both, true-false}
use Rattle.plain.proofs.Each.{Each, each_weaken}
use Rattle.statement.specs.Statements.{Statement}
use Rattle.order.specs.Order.{before, inserted, names}
use Rattle.order.proofs.Packed.{first, first-less, first-same, equal-neither}

-- ---- byte order

-- what the first bytes of two lists in order are
first-cases : (x y : ℕ) (t : Bool) → first x y t ≡ true → (x < y) ⊎ ((x ≡ y) × (t ≡ true))
first-cases x y t e =
    ⊎_elim (λ a. inl (ltb-true x y a)) (λ b. let c = both (eqb x y) t b in inr (eqb-true x y c.0, c.1)) (or_cases (ltb x y) (eqb x y && t) e)

pub before-trans : (a b c : List ℕ) → before a b ≡ true → before b c ≡ true → before a c ≡ true
unfolding before
before-trans [] [] c e f = true-false (sym e)
before-trans [] (y ∷ b) [] e f = true-false (sym f)
before-trans [] (y ∷ b) (z ∷ c) e f = refl
before-trans (x ∷ a) [] c e f = true-false (sym e)
before-trans (x ∷ a) (y ∷ b) [] e f = true-false (sym f)
before-trans (x ∷ a) (y ∷ b) (z ∷ c) e f =
    by (first-cases x y (before a b) e) (first-cases y z (before b c) f) (λ g h. before-trans a b c g h)
  where
    by : (x < y) ⊎ ((x ≡ y) × (before a b ≡ true)) → (y < z) ⊎ ((y ≡ z) × (before b c ≡ true))
        → (before a b ≡ true → before b c ≡ true → before a c ≡ true) → first x z (before a c) ≡ true
    by (inl p) (inl q) r = first-less x z (before a c) (omega arith)
    by (inl p) (inr q) r = first-less x z (before a c) (omega (arith, q.0))
    by (inr p) (inl q) r = first-less x z (before a c) (omega (arith, p.0))
    by (inr p) (inr q) r = first-same x z (before a c) (p.0 ∙ q.0) ∙ r p.1 q.1

-- of two names that differ one stands before the other
other_way : (n k : List ℕ) → before n k ≡ false → equal n k ≡ false → before k n ≡ true
other_way n k e f = by (before k n) refl
  where
    by : (t : Bool) → before k n ≡ t → t ≡ true
    by true g = refl
    by false g = true-false (sym (equal-neither n k ∙ (λ i. not (e i) && not (g i))) ∙ f)

-- and a name that stands before another is not equal to it
pub before-not-equal : (n k : List ℕ) → before n k ≡ true → equal n k ≡ false
before-not-equal n k e = equal-neither n k ∙ ap (λ (t : Bool). not t && not (before k n)) e

-- ---- names in order, each once

abbrev pub Rising : List (List ℕ) → Type 0
Rising [] = Unit {0}
Rising (k ∷ ks) = Each (λ j. before k j ≡ true) ks × Rising ks

pub each-inserted : (P : List ℕ → Type 0) (n : List ℕ) (ks : List (List ℕ)) → P n → Each P ks → Each P (inserted n ks)
unfolding inserted
each-inserted P n [] p f = (p, tt)
each-inserted P n (k ∷ ks) p f = by (before n k) (equal n k) (each-inserted P n ks p f.1)
  where
    by : (s t : Bool) → Each P (inserted n ks) → Each P (if s then n ∷ k ∷ ks else (if t then k ∷ ks else (k ∷ inserted n ks)))
    by true t r = (p, f)
    by false true r = f
    by false false r = (f.0, r)

rising-inserted : (n : List ℕ) (ks : List (List ℕ)) → Rising ks → Rising (inserted n ks)
unfolding inserted
rising-inserted n [] f = (tt, tt)
rising-inserted n (k ∷ ks) f = by (before n k) (equal n k) refl refl (rising-inserted n ks f.1)
  where
    by : (s t : Bool) → before n k ≡ s → equal n k ≡ t → Rising (inserted n ks) → Rising (if s then n ∷ k ∷ ks else (if t then k ∷ ks else (k ∷ inserted n ks)))
    by true t e g r = ((e, each_weaken (λ j. before k j ≡ true) (λ j. before n j ≡ true) (λ j h. before-trans n k j e h) ks f.0), f)
    by false true e g r = f
    by false false e g r = (each-inserted (λ j. before k j ≡ true) n ks (other_way n k e g) f.0, r)

pub rising-names : (ss : List Statement) → Rising (names ss)
unfolding names
rising-names [] = tt
rising-names (s ∷ ss) = rising-inserted s.name (names ss) (rising-names ss)

-- ---- no others, and no more than there are statements

pub each-names : (P : List ℕ → Type 0) (ss : List Statement) → Each (λ s. P s.name) ss → Each P (names ss)
unfolding names
each-names P [] f = tt
each-names P (s ∷ ss) f = each-inserted P s.name (names ss) f.0 (each-names P ss f.1)

length_inserted : (n : List ℕ) (ks : List (List ℕ)) → length (inserted n ks) ≤ suc (length ks)
unfolding inserted
length_inserted n [] = omega arith
length_inserted n (k ∷ ks) = by (before n k) (equal n k) (length_inserted n ks)
  where
    by : (s t : Bool) → length (inserted n ks) ≤ suc (length ks) → length (if s then n ∷ k ∷ ks else (if t then k ∷ ks else (k ∷ inserted n ks))) ≤ suc (suc (length ks))
    by true t r = omega arith
    by false true r = omega arith
    by false false r = omega arith

pub length-names : (ss : List Statement) → length (names ss) ≤ length ss
unfolding names
length-names [] = omega arith
length-names (s ∷ ss) = omega (arith, length_inserted s.name (names ss), length-names ss)
