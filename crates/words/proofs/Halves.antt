-- Words as two halves: joining and parting, sums of lists put together, places found, and repeats. Assumes nothing.
use mathlib.Core.Path.{◌≡◌, refl, sym, ap}
use mathlib.Core.Bool.{Bool, true, false}
use mathlib.Core.List.{List, [], ◌∷◌, ◌++◌, map}
use Prim.Native.Nat.{ℕ, zero, suc, ◌+◌, ◌≤◌, ◌<◌}
use native.Mathlib.Nat.{not-suc-le-zero, le_of_suc-le-suc}
use native.Mathlib.Omega.{arith}
use borrow.Author.Tests.{le-ltb, ltb-false, ne_eqb, eqb-false}
use lib.Dec.{eqb, ltb}
use lib.ListN.{length, take, drop, get_or}
use Rattle.std.specs.Prelude.{if◌then◌else◌}
use Rattle.words.specs.Halves.{HALF, upper, lower, joined, sum, place, distinct}
use Rattle.plain.proofs.Tests.{not-then}
use Rattle.plain.proofs.Each.{Each, each-without}

-- ---- a word and its halves

pub upper-joined : (u l : ℕ) → l < HALF → upper (joined u l) ≡ u
upper-joined u l h = omega arith

pub lower-joined : (u l : ℕ) → l < HALF → lower (joined u l) ≡ l
lower-joined u l h = omega arith

pub joined-halves : (w : ℕ) → joined (upper w) (lower w) ≡ w
joined-halves w = omega arith

-- ---- sums

-- one word more
pub sum-take-next : (k : ℕ) (ws : List ℕ) → k < length ws → sum (take (k + 1) ws) ≡ sum (take k ws) + lower (get_or ws k 0)
unfolding sum
sum-take-next k [] h = absurd (not-suc-le-zero h)
sum-take-next zero (w ∷ ws) h = omega arith
sum-take-next (suc k) (w ∷ ws) h =
    let e : suc k + 1 ≡ suc (k + 1) = omega arith in
    rw e (omega (arith, sum-take-next k ws (le_of_suc-le-suc h)))

-- the words before place k, and those from there on
pub sum-parts : (k : ℕ) (ws : List ℕ) → sum (take k ws) + sum (drop k ws) ≡ sum ws
unfolding sum
sum-parts zero ws = omega arith
sum-parts (suc k) [] = refl
sum-parts (suc k) (w ∷ ws) = omega (arith, sum-parts k ws)

-- ---- places

-- a number that no word has is found nowhere, and the other way round
pub place-absent : (u : ℕ) (ws : List ℕ) → Each (λ w. upper w ≡ u → ⊥) ws → place u ws ≡ length ws
unfolding place
place-absent u [] f = refl
place-absent u (w ∷ ws) f = rw (ne_eqb (upper w) u f.0) (ap suc (place-absent u ws f.1))

pub absent-place : (u : ℕ) (ws : List ℕ) → length ws ≤ place u ws → Each (λ w. upper w ≡ u → ⊥) ws
unfolding place
absent-place u [] h = tt
absent-place u (w ∷ ws) h = by (eqb (upper w) u) refl (λ k. absent-place u ws k) h
  where
    by : (b : Bool) → eqb (upper w) u ≡ b → (length ws ≤ place u ws → Each (λ w. upper w ≡ u → ⊥) ws) → suc (length ws) ≤ (if b then 0 else suc (place u ws)) → (upper w ≡ u → ⊥) × Each (λ w. upper w ≡ u → ⊥) ws
    by true e f k = absurd (not-suc-le-zero k)
    by false e f k = (eqb-false (upper w) u e, f (le_of_suc-le-suc k))

-- ---- repeats

-- no two numbers are equal
abbrev pub Different : List ℕ → Type 0
Different [] = Unit {0}
Different (x ∷ xs) = Each (λ y. y ≡ x → ⊥) xs × Different xs

uppers : (u : ℕ) (ws : List ℕ) → Each (λ w. upper w ≡ u → ⊥) ws → Each (λ y. y ≡ u → ⊥) (map upper ws)
uppers u [] f = tt
uppers u (w ∷ ws) f = (f.0, uppers u ws f.1)

words-from : (u : ℕ) (ws : List ℕ) → Each (λ y. y ≡ u → ⊥) (map upper ws) → Each (λ w. upper w ≡ u → ⊥) ws
words-from u [] f = tt
words-from u (w ∷ ws) f = (f.0, words-from u ws f.1)

pub distinct-different : (ws : List ℕ) → distinct ws ≡ true → Different (map upper ws)
unfolding distinct
distinct-different [] e = tt
distinct-different (w ∷ ws) e =
    let b = not-then (ltb (place (upper w) ws) (length ws)) (distinct ws) e in
    (uppers (upper w) ws (absent-place (upper w) ws (ltb-false (place (upper w) ws) (length ws) b.0)), distinct-different ws b.1)

pub different-distinct : (ws : List ℕ) → Different (map upper ws) → distinct ws ≡ true
unfolding distinct
different-distinct [] f = refl
different-distinct (w ∷ ws) f =
    let e = place-absent (upper w) ws (words-from (upper w) ws f.0) in
    rw (le-ltb (place (upper w) ws) (length ws) (omega arith)) (different-distinct ws f.1)

pub different-append : (xs : List ℕ) (y : ℕ) → Different xs → Each (λ x. x ≡ y → ⊥) xs → Different (xs ++ (y ∷ []))
different-append [] y f g = (tt, tt)
different-append (x ∷ xs) y f g = (last xs f.0, different-append xs y f.1 g.1)
  where
    last : (zs : List ℕ) → Each (λ z. z ≡ x → ⊥) zs → Each (λ z. z ≡ x → ⊥) (zs ++ (y ∷ []))
    last [] h = ((λ e. g.0 (sym e)), tt)
    last (z ∷ zs) h = (h.0, last zs h.1)

-- some numbers left out of the middle
pub different-without : (xs ys zs : List ℕ) → Different (xs ++ (ys ++ zs)) → Different (xs ++ zs)
different-without [] [] zs f = f
different-without [] (y ∷ ys) zs f = different-without [] ys zs f.1
different-without (x ∷ xs) ys zs f = (each-without (λ y. y ≡ x → ⊥) xs ys zs f.0, different-without xs ys zs f.1)
