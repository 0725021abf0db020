-- The thirty words one by one. Assumes nothing.
use Prim.Native.Nat.{ℕ}
use mathlib.Core.Path.{◌≡◌, refl, ap}
use mathlib.Core.List.{List, [], ◌∷◌, ◌++◌}
use lib.ListN.{length, get_or}
use Rattle.octets.specs.Octets.{packed}
use Rattle.feeding.specs.Parts.{Open}
use Rattle.bookmark.specs.declared.mark.Entered.{Entered}
use Rattle.bookmark.specs.declared.mark.Standing.{Standing}
use Rattle.bookmark.specs.declared.mark.Standing.TheVariants as S
use Rattle.bookmark.specs.Limits.{NUMBERWORDS, LINEWORDS, MARKWORDS}
use Rattle.bookmark.specs.Numbers.{standing_words}
use Rattle.bookmark.specs.Words.{OPEN, bit, number_words, open_words}

-- the words of numbers, those of the standing being these
abbrev pub spelled : Open Entered → List ℕ → List ℕ
spelled o s =
    OPEN ∷ o.progress.values ∷ o.progress.bytes ∷ get_or s 0 0 ∷ get_or s 1 0 ∷ get_or s 2 0 ∷ get_or s 3 0 ∷ get_or s 4 0 ∷ o.number
    ∷ o.long ∷ length o.kept ∷ bit o.pending ∷ o.bytes ∷ []

five : (s : Standing) (xs : List ℕ) → standing_words s ++ xs
    ≡ get_or (standing_words s) 0 0 ∷ get_or (standing_words s) 1 0 ∷ get_or (standing_words s) 2 0 ∷ get_or (standing_words s) 3 0 ∷ get_or (standing_words s) 4 0 ∷ xs
unfolding standing_words
five (S.Storing r) xs = refl
five (S.Overflowed r) xs = refl
five (S.Faulted f) xs = refl

module _ (o : Open Entered) where
  pub numbers-spelled : number_words o ≡ spelled o (standing_words o.progress.standing)
  unfolding number_words
  numbers-spelled = ap (λ (l : List ℕ). OPEN ∷ o.progress.values ∷ o.progress.bytes ∷ l) (five o.progress.standing _)

  pub length-numbers : length (number_words o) ≡ NUMBERWORDS
  length-numbers = ap length numbers-spelled

  pub words-spelled : open_words o ≡ spelled o (standing_words o.progress.standing) ++ packed LINEWORDS o.kept
  unfolding open_words
  words-spelled = ap (λ (l : List ℕ). l ++ packed LINEWORDS o.kept) numbers-spelled

  pub length-words : length (open_words o) ≡ MARKWORDS
  unfolding packed
  length-words = ap length words-spelled

  at : (i : ℕ) → get_or (open_words o) i 0 ≡ get_or (spelled o (standing_words o.progress.standing) ++ packed LINEWORDS o.kept) i 0
  at i = ap (λ (l : List ℕ). get_or l i 0) words-spelled

  -- a text is open
  pub word-open : get_or (open_words o) 0 0 ≡ OPEN
  word-open = at 0

  pub word-values : get_or (open_words o) 1 0 ≡ o.progress.values
  word-values = at 1

  pub word_bytes : get_or (open_words o) 2 0 ≡ o.progress.bytes
  word_bytes = at 2

  pub word_kept : get_or (open_words o) 10 0 ≡ length o.kept
  word_kept = at 10

  pub word_total : get_or (open_words o) 12 0 ≡ o.bytes
  word_total = at 12
