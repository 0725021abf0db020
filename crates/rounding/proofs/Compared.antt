-- How `compare` answers, by the order of its numbers. Assumes nothing.
use Prim.Native.Nat.{ℕ, ◌<◌, compare, Ordering}
use mathlib.Core.Path.{◌≡◌, refl, ◌∙◌}
use mathlib.Core.Logic.{◌⊎◌, inl, inr}
use mathlib.Core.Bool.{Bool, true, false}
use native.Mathlib.Nat.{le_of_eq, le_of_lt}
use native.Mathlib.Omega.{arith}
use borrow.Author.Tests.{le-leb, lt-leb, eq-eqb, ne_eqb, leb-true, leb-false, eqb-true, eqb-false}
use lib.Dec.{is_le, compare_is_eq, leb, eqb}

abbrev order : (le eq : Bool) → Ordering
order true true = Ordering.eq
order true false = Ordering.lt
order false t = Ordering.gt

tested : (o : Ordering) → o ≡ order (is_le o) (compare_is_eq o)
tested Ordering.lt = refl
tested Ordering.eq = refl
tested Ordering.gt = refl

module _ (a b : ℕ) where
  pub is_lt : a < b → compare a b ≡ Ordering.lt
  is_lt h = tested (compare a b) ∙ rw (le-leb a b (le_of_lt h), ne_eqb a b (λ e. omega arith))

  pub is_eq : a ≡ b → compare a b ≡ Ordering.eq
  is_eq h = tested (compare a b) ∙ rw (le-leb a b (le_of_eq h), eq-eqb a b h)

  pub is_gt : b < a → compare a b ≡ Ordering.gt
  is_gt h = tested (compare a b) ∙ rw (lt-leb a b h)

  pub three : (a < b) ⊎ ((a ≡ b) ⊎ (b < a))
  three = by (leb a b) (eqb a b) refl refl
    where
      by : (s t : Bool) → leb a b ≡ s → eqb a b ≡ t → (a < b) ⊎ ((a ≡ b) ⊎ (b < a))
      by false t h e = inr (inr (leb-false a b h))
      by true true h e = inr (inl (eqb-true a b e))
      by true false h e = inl (let l = leb-true a b h in let n = eqb-false a b e in omega arith)
