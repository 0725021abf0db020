-- Two parts are fed as one: feeding is a fold over the bytes. Assumes nothing.
use Prim.Native.Nat.{ℕ}
use mathlib.Core.Path.{◌≡◌, refl, sym, ◌∙◌}
use mathlib.Core.List.{List, [], ◌∷◌, ◌++◌}
use Rattle.feeding.specs.Parts.{Open, step, fed, fed_all, joined}

module _ {P : Type 0} (complete : P → ℕ → List ℕ → P) where
  pub fed-append : (o : Open P) (xs ys : List ℕ) → fed complete o (xs ++ ys) ≡ fed complete (fed complete o xs) ys
  unfolding fed
  fed-append o [] ys = refl
  fed-append o (x ∷ xs) ys = fed-append (step complete o x) xs ys

  -- some bytes, one, and the rest
  pub fed-thrice : (o : Open P) (xs : List ℕ) (b : ℕ) (ys : List ℕ)
      → fed complete o (xs ++ b ∷ ys) ≡ fed complete (fed complete (fed complete o xs) (b ∷ [])) ys
  unfolding fed
  fed-thrice o xs b ys = fed-append o xs (b ∷ ys)

  pub fed-joined : (o : Open P) (ps : List (List ℕ)) → fed_all complete o ps ≡ fed complete o (joined ps)
  unfolding fed fed_all
  fed-joined o [] = refl
  fed-joined o (p ∷ ps) = fed-joined (fed complete o p) ps ∙ sym (fed-append o p (joined ps))
