-- A string's bytes, one at a time: what is counted so far and what is left make all. Assumes nothing.
use Prim.Native.Nat.{ℕ, ◌+◌, ◌≤◌, ◌<◌}
use native.Mathlib.Nat.{add-zero}
use native.Mathlib.Omega.{arith}
use mathlib.Core.Path.{◌≡◌, refl, sym, ◌∙◌, ap}
use mathlib.Core.Bool.{Bool, true, false}
use mathlib.Core.List.{List, [], ◌∷◌}
use borrow.Author.Tests.{ne_eqb, eqb-true}
use lib.Dec.{eqb}
use lib.ListN.{length, drop, get_or, drop_of_length-le}
use lib.Seq.{get_or-drop}
use Rattle.std.specs.Prelude.{Option, Some, None}
use Rattle.plain.specs.Bytes.{QUOTE}
use Rattle.plain.proofs.Runs.{drop-byte}
use Rattle.value.specs.Classes.{stands}
use Rattle.value.specs.Strings.{Scanned, closed, unclosed, preceding, scanned, closing}
use Rattle.value.specs.declared.strings.Closed.{Closed}
use Rattle.value.proofs.Standing.{stands-within}

-- ---- by the bytes

-- another byte than a quote
pub scan-plain : (b : ℕ) (bs : List ℕ) → eqb b QUOTE ≡ false → scanned (b ∷ bs) ≡ preceding b 1 (scanned bs)
unfolding scanned
scan-plain b [] e = rw e
scan-plain b (c ∷ bs) e = rw e

-- two quotes
pub scan-twice : (bs : List ℕ) → scanned (QUOTE ∷ QUOTE ∷ bs) ≡ preceding QUOTE 2 (scanned bs)
unfolding scanned
scan-twice bs = refl

-- one alone
pub scan-close : (bs : List ℕ) → stands QUOTE bs 0 ≡ false → scanned (QUOTE ∷ bs) ≡ closed [] 1
unfolding scanned
scan-close [] e = refl
scan-close (c ∷ bs) e = rw e

-- ---- by the place

abbrev closed_at : (long end : ℕ) → Option Closed
closed_at n k = Some (record { long = n; end = k })

further : (n i b k : ℕ) (s : Scanned) → closing (n + 1) (i + k) s ≡ closing n i (preceding b k s)
further n i b k unclosed = refl
further n i b k (closed bs m) =
    let y : n + 1 + length bs ≡ n + length (b ∷ bs) = omega arith in
    let z : i + k + m ≡ i + (k + m) = omega arith in
    rw (y, z)

module _ (line : List ℕ) (n i : ℕ) where
  pub at-line-end : length line ≤ i → None ≡ closing n i (scanned (drop i line))
  unfolding scanned
  at-line-end h = rw (drop_of_length-le line h)

  module _ (h : i < length line) where
    pub at_byte : (get_or line i 0 ≡ QUOTE → ⊥) → closing (n + 1) (i + 1) (scanned (drop (i + 1) line)) ≡ closing n i (scanned (drop i line))
    at_byte q =
        further n i (get_or line i 0) 1 (scanned (drop (i + 1) line))
        ∙ ap (closing n i) (sym (scan-plain (get_or line i 0) (drop (i + 1) line) (ne_eqb (get_or line i 0) QUOTE q)) ∙ ap scanned (sym (drop-byte line i (get_or line i 0) h refl)))

    module _ (q : get_or line i 0 ≡ QUOTE) (t : Bool) (e : t ≡ stands QUOTE line (i + 1)) where
      pub at-quotes : t ≡ true → closing (n + 1) (i + 2) (scanned (drop (i + 2) line)) ≡ closing n i (scanned (drop i line))
      at-quotes y =
          let g : i + 1 < length line = stands-within QUOTE line (i + 1) t (omega arith) e y in
          let z : i + 1 + 1 ≡ i + 2 = omega arith in
          let p : drop (i + 1) line ≡ QUOTE ∷ drop (i + 2) line =
          drop-byte line (i + 1) QUOTE g (eqb-true (get_or line (i + 1) 0) QUOTE (sym e ∙ y)) ∙ ap (λ (j : ℕ). QUOTE ∷ drop j line) z in
          further n i QUOTE 2 (scanned (drop (i + 2) line))
          ∙ ap (closing n i) (sym (scan-twice (drop (i + 2) line)) ∙ ap scanned (sym (drop-byte line i QUOTE h q ∙ ap (λ (l : List ℕ). QUOTE ∷ l) p)))

      pub at-quote : t ≡ false → closed_at n (i + 1) ≡ closing n i (scanned (drop i line))
      at-quote y =
          let o : stands QUOTE (drop (i + 1) line) 0 ≡ false =
          ap (λ (b : ℕ). eqb b QUOTE) (get_or-drop (i + 1) line 0 0 ∙ ap (λ (j : ℕ). get_or line j 0) (add-zero (i + 1))) ∙ sym e ∙ y in
          ap (λ (m : ℕ). closed_at m (i + 1)) (sym (add-zero n))
          ∙ ap (closing n i) (sym (scan-close (drop (i + 1) line) o) ∙ ap scanned (sym (drop-byte line i QUOTE h q)))
