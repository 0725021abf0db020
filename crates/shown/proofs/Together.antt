-- The variables of statements have together no more than the statements have, by any measure of values that adds up: each statement
-- gives its values to one name at most. Assumes nothing.
use mathlib.Core.Path.{◌≡◌, refl, sym, ap, subst}
use mathlib.Core.Bool.{Bool, true, false}
use mathlib.Core.List.{List, [], ◌∷◌, ◌++◌}
use Prim.Native.Nat.{ℕ, ◌+◌, ◌≤◌}
use native.Mathlib.Omega.{arith}
use lib.ListN.{length, length-append}
use Rattle.std.specs.Prelude.{if◌then◌else◌}
use Rattle.plain.proofs.Each.{Each}
use Rattle.statement.specs.Statements.{Statement}
use Rattle.words.proofs.Same.{same-equal}
use Rattle.layout.specs.State.{Pool, program, flat, values_of, values}
use Rattle.layout.proofs.Columns.{flat_append}
use Rattle.layout.proofs.Spelling.{length-words}
use Rattle.variables.specs.Variables.{Datum, has, each, assigns, any, since, gives, variable}
use Rattle.variables.proofs.Counts.{length-each}
use Rattle.order.specs.Order.{before}
use Rattle.order.proofs.Rising.{Rising, rising-names, before-not-equal}
use Rattle.shown.specs.Shown.{names_in}
use Rattle.shown.specs.Shown as show

-- the lines of values, one after the other
pub lines_none : show.value_lines [] ≡ []
unfolding show.value_lines flat
lines_none = refl

pub lines-append : (xs ys : List Datum) → show.value_lines (xs ++ ys) ≡ show.value_lines xs ++ show.value_lines ys
unfolding show.value_lines
lines-append xs ys = flat_append show.value_line xs ys

-- a statement's values, whatever its name
abbrev pub own : Statement → List Datum
own s = each s.values

-- all values that statements give a name
abbrev given : List ℕ → List Statement → List Datum
given n ss = flat (gives n) ss

module _ (μ : List Datum → ℕ) (none : μ [] ≡ 0) (join : (xs ys : List Datum) → μ (xs ++ ys) ≡ μ xs + μ ys) where
  -- ---- one variable

  -- a variable is the end of what statements give its name
  since-few : (n : List ℕ) (ss : List Statement) → μ (given n (since n ss)) ≤ μ (given n ss)
  unfolding since flat
  since-few n [] = omega arith
  since-few n (s ∷ ss) = by (any (assigns n) ss) (since-few n ss)
    where
      by : (t : Bool) → μ (given n (since n ss)) ≤ μ (given n ss) → μ (given n (if t then since n ss else (s ∷ ss))) ≤ μ (gives n s ++ given n ss)
      by true r = omega (arith, join (gives n s) (given n ss))
      by false r = omega arith

  -- ---- names in order

  -- how much statements give some names together
  abbrev sum : List Statement → List (List ℕ) → ℕ
  sum ss [] = 0
  sum ss (k ∷ ks) = μ (given k ss) + sum ss ks

  -- how much one statement gives some names together
  abbrev share : Statement → List (List ℕ) → ℕ
  share s [] = 0
  share s (k ∷ ks) = μ (gives k s) + share s ks

  sum-none : (ks : List (List ℕ)) → sum [] ks ≡ 0
  unfolding flat
  sum-none [] = refl
  sum-none (k ∷ ks) = omega (arith, none, sum-none ks)

  sum_more : (s : Statement) (ss : List Statement) (ks : List (List ℕ)) → sum (s ∷ ss) ks ≡ share s ks + sum ss ks
  unfolding flat
  sum_more s ss [] = refl
  sum_more s ss (k ∷ ks) = omega (arith, join (gives k s) (given k ss), sum_more s ss ks)

  -- a statement gives nothing to names that stand after its own
  share-none : (s : Statement) (ks : List (List ℕ)) → Each (λ k. before s.name k ≡ true) ks → share s ks ≡ 0
  share-none s [] f = refl
  share-none s (k ∷ ks) f =
      let e : gives k s ≡ [] = ap (λ (t : Bool). if t then own s else []) (before-not-equal s.name k f.0) in
      omega (arith, ap μ e, none, share-none s ks f.1)

  -- so it gives its values to one name at most
  share-few : (s : Statement) (ks : List (List ℕ)) → Rising ks → share s ks ≤ μ (own s)
  share-few s [] f = omega arith
  share-few s (k ∷ ks) f = by (has k s) refl (share-few s ks f.1)
    where
      by : (t : Bool) → has k s ≡ t → share s ks ≤ μ (own s) → μ (if t then own s else []) + share s ks ≤ μ (own s)
      by true e r =
          let z : share s ks ≡ 0 = share-none s ks (subst (λ (n : List ℕ). Each (λ j. before n j ≡ true) ks) (sym (same-equal s.name k e)) f.0) in
          omega arith
      by false e r = omega (arith, none)

  sum-few : (ss : List Statement) (ks : List (List ℕ)) → Rising ks → sum ss ks ≤ μ (flat own ss)
  unfolding flat
  sum-few [] ks f = omega (arith, sum-none ks)
  sum-few (s ∷ ss) ks f = omega (arith, sum_more s ss ks, share-few s ks f, sum-few ss ks f, join (own s) (flat own ss))

  together : (ss : List Statement) (ks : List (List ℕ)) → μ (flat (λ n. given n (since n ss)) ks) ≤ sum ss ks
  unfolding flat
  together ss [] = omega (arith, none)
  together ss (k ∷ ks) = omega (arith, join (given k (since k ss)) (flat (λ n. given n (since n ss)) ks), since-few k ss, together ss ks)

  pub together-few : (s : Pool) → μ (show.values_of s (names_in s)) ≤ μ (flat own (program s))
  unfolding show.values_of variable
  together-few s = omega (arith, together (program s) (names_in s), sum-few (program s) (names_in s) (rising-names (program s)))

-- ---- how many values there are

length-own : (ss : List Statement) → length (flat own ss) ≡ length (flat values_of ss)
unfolding flat
length-own [] = refl
length-own (s ∷ ss) =
    omega
    (arith, length-append (own s) (flat own ss), length-append (values_of s) (flat values_of ss), length-each s.values, length-words s.values, length-own ss)

pub values-few : (s : Pool) → length (show.values_of s (names_in s)) ≤ length (values s)
values-few s = omega (arith, together-few length refl length-append s, length-own (program s))
