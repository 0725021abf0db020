-- A line compared with a word: it begins with the word and only blanks follow, or it is none. Assumes nothing.
use Prim.Native.Nat.{ℕ, ◌-◌}
use native.Mathlib.Omega.{arith}
use mathlib.Core.Path.{◌≡◌, refl, sym, ap, ◌∙◌}
use mathlib.Core.Bool.{Bool, true, false, ◌&&◌}
use mathlib.Core.List.{List, [], ◌∷◌, ◌++◌}
use borrow.Author.Tests.{eq-eqb, eqb-true}
use lib.Dec.{leb, eqb}
use lib.ListN.{length, take, drop, length-drop}
use lib.Seq.{take-length}
use Rattle.plain.specs.Runs.{past, skip, none}
use Rattle.plain.proofs.Runs.{drop_past}
use Rattle.plain.proofs.Places.{none-drop}
use Rattle.value.specs.Classes.{blank}
use Rattle.text.specs.Delimiters.{word, exactly}

-- only blanks follow
only_blanks : (bs : List ℕ) → none (skip blank bs) ≡ leb (length bs) (past blank bs 0)
only_blanks bs = ap none (sym (drop_past blank bs 0)) ∙ none-drop bs (past blank bs 0)

-- the whole word is there: only blanks may follow
pub word-first : (w bs after : List ℕ) → bs ≡ w ++ after → word w bs ≡ leb (length after) (past blank after 0)
word-first w bs after e = ap (word w) e ∙ by w
  where
    by : (w : List ℕ) → word w (w ++ after) ≡ leb (length after) (past blank after 0)
    by [] = only_blanks after
    by (c ∷ w) = rw (eq-eqb c c refl) (by w)

-- it is not
pub word-absent : (w bs : List ℕ) → ((after : List ℕ) → bs ≡ w ++ after → ⊥) → word w bs ≡ false
word-absent [] bs h = absurd (h bs refl)
word-absent (c ∷ w) [] h = refl
word-absent (c ∷ w) (b ∷ bs) h = by (eqb b c) refl (word-absent w bs)
  where
    by : (t : Bool) → eqb b c ≡ t → (((after : List ℕ) → bs ≡ w ++ after → ⊥) → word w bs ≡ false) → (t && word w bs) ≡ false
    by true e f = f (λ after q. h after (rw (eqb-true b c e, q)))
    by false e f = refl

pub exactly-at : (w line : List ℕ) (i : ℕ) → i ≡ past blank line 0 → exactly w line ≡ word w (take (length line - i) (drop i line))
exactly-at w line i e =
    let n : length (drop i line) ≡ length line - i = omega (arith, length-drop i line) in
    ap (word w) (sym ((rw n at (take-length (drop i line))) ∙ ap (λ (n : ℕ). drop n line) e ∙ drop_past blank line 0))
