-- A test of every element of a list and the fact that it finds; lists of words. Assumes nothing.
use mathlib.Core.Path.{◌≡◌, refl}
use mathlib.Core.Bool.{Bool, true}
use mathlib.Core.List.{List, [], ◌∷◌}
use Prim.Native.Nat.{ℕ, suc, ◌<◌}
use lib.ListN.{get_or}
use Rattle.words.specs.Halves.{all}
use Rattle.plain.proofs.Tests.{first_then}
use Rattle.plain.proofs.Each.{Each}

module _ {A : Type 0} (p : A → Bool) where
  pub all-each : (xs : List A) → all p xs ≡ true → Each (λ x. p x ≡ true) xs
  unfolding all
  all-each [] e = tt
  all-each (x ∷ xs) e = let b = first_then (p x) (all p xs) e in (b.0, all-each xs b.1)

  pub each_all : (xs : List A) → Each (λ x. p x ≡ true) xs → all p xs ≡ true
  unfolding all
  each_all [] f = refl
  each_all (x ∷ xs) f = rw f.0 (each_all xs f.1)

-- ---- words of 64 bits

abbrev pub WORD : ℕ
WORD = 18446744073709551616

-- every word of a list is below 2^64, as a slice of words knows of itself
abbrev pub Words : List ℕ → Type 0
Words ws = Each (λ w. w < WORD) ws

pub words_of : (ws : List ℕ) → ((i : ℕ) → get_or ws i 0 < WORD) → Words ws
words_of [] f = tt
words_of (w ∷ ws) f = (f 0, words_of ws (λ i. f (suc i)))
