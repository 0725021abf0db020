-- What is kept of a line that goes on stands for all of the line, wherever a squeezed line comes to the same. Assumes nothing.
use Prim.Native.Nat.{ℕ, suc, ◌+◌, ◌≤◌}
use native.Mathlib.Nat.{add-zero}
use native.Mathlib.Omega.{arith}
use mathlib.Core.Path.{◌≡◌, refl, sym, ap, ◌∙◌}
use mathlib.Core.Bool.{Bool, true, false}
use mathlib.Core.List.{List, [], ◌∷◌, ◌++◌, append_assoc, append-nil}
use borrow.Author.Tests.{ltb-true, ltb-false, le-ltb}
use lib.Dec.{ltb}
use lib.ListN.{length, length-append}
use Rattle.std.specs.Prelude.{if◌then◌else◌}
use Rattle.plain.specs.Runs.{none}
use Rattle.feeding.specs.Kept.{ROOM, squeezed, keep}
use Rattle.feeding.specs.Parts.{capped}
use Rattle.feeding.proofs.Squeezing.{squeezed-long, squeezed-short}

-- of a line over 132 bytes no more matters than squeezing leaves, whatever follows
pub record Squeezes {P : Type 0} (complete : P → ℕ → List ℕ → P) : Type 0 where
  pub squeezes : (p : P) (number : ℕ) (k : List ℕ) (b : ℕ) (l : List ℕ) → ROOM ≤ length k
      → complete p number (k ++ b ∷ l) ≡ complete p number (squeezed k b ++ l)

-- ---- one byte more

pub keep-room : (k : List ℕ) (b : ℕ) → length k ≤ ROOM → length (keep k b) ≤ ROOM
unfolding keep
keep-room k b h = by (ltb (length k) ROOM) refl
  where
    by : (t : Bool) → ltb (length k) ROOM ≡ t → length (if t then k ++ b ∷ [] else squeezed k b) ≤ ROOM
    by true e = omega (arith, ltb-true (length k) ROOM e, length-append k (b ∷ []))
    by false e = let g = ltb-false (length k) ROOM e in squeezed-short k b (omega arith)

pub keep_some : (k : List ℕ) (b : ℕ) → none (keep k b) ≡ false
unfolding keep
keep_some k b = by (ltb (length k) ROOM) refl
  where
    longer : (x : List ℕ) → 1 ≤ length x → none x ≡ false
    longer [] h = absurd (omega arith)
    longer (c ∷ x) h = refl

    by : (t : Bool) → ltb (length k) ROOM ≡ t → none (if t then k ++ b ∷ [] else squeezed k b) ≡ false
    by true e = longer (k ++ b ∷ []) (omega (arith, length-append k (b ∷ [])))
    by false e = longer (squeezed k b) (omega (arith, squeezed-long k b (ltb-false (length k) ROOM e)))

capped-over : (n : ℕ) → ROOM ≤ n → capped n ≡ ROOM
capped-over n h = by (ltb ROOM n) refl
  where
    by : (t : Bool) → ltb ROOM n ≡ t → (if t then ROOM else n) ≡ ROOM
    by true e = refl
    by false e = let g = ltb-false ROOM n e in omega arith

pub capped-within : (n : ℕ) → n ≤ ROOM → capped n ≡ n
capped-within n h = rw (le-ltb ROOM n h)

keep-long : (k : List ℕ) (b m : ℕ) → length k ≤ ROOM → capped (length (keep k b) + m) ≡ capped (length k + suc m)
unfolding keep
keep-long k b m h = by (ltb (length k) ROOM) refl
  where
    by : (t : Bool) → ltb (length k) ROOM ≡ t → capped (length (if t then k ++ b ∷ [] else squeezed k b) + m) ≡ capped (length k + suc m)
    by true e = let z : length (k ++ b ∷ []) + m ≡ length k + suc m = omega (arith, length-append k (b ∷ [])) in ap capped z
    by false e =
        let g = ltb-false (length k) ROOM e in
        capped-over (length (squeezed k b) + m) (omega (arith, squeezed-long k b g)) ∙ sym (capped-over (length k + suc m) (omega arith))

-- ---- what is kept, and the line

module _ {P : Type 0} (complete : P → ℕ → List ℕ → P) where
  -- k is what is kept of a line w that goes on
  pub record Stands (k w : List ℕ) : Type 0 where
    pub room : length k ≤ ROOM
    pub long : (m : ℕ) → capped (length k + m) ≡ capped (length w + m)
    pub same : (p : P) (number : ℕ) (l : List ℕ) → complete p number (k ++ l) ≡ complete p number (w ++ l)

  pub stands-itself : (k : List ℕ) → length k ≤ ROOM → Stands k k
  stands-itself k h = record { room = h; long = λ m. refl; same = λ p number l. refl }

  module _ (s : Squeezes complete) where
    keep_same : (p : P) (number : ℕ) (k : List ℕ) (b : ℕ) (l : List ℕ) → complete p number (keep k b ++ l) ≡ complete p number (k ++ b ∷ l)
    unfolding keep
    keep_same p number k b l = by (ltb (length k) ROOM) refl
      where
        by : (t : Bool) → ltb (length k) ROOM ≡ t
            → complete p number ((if t then k ++ b ∷ [] else squeezed k b) ++ l) ≡ complete p number (k ++ b ∷ l)
        by true e = rw (append_assoc k (b ∷ []) l)
        by false e = sym (s.squeezes p number k b l (ltb-false (length k) ROOM e))

    pub stands-keep : (k w : List ℕ) (b : ℕ) → Stands k w → Stands (keep k b) (w ++ b ∷ [])
    stands-keep k w b d =
        record {
          room = keep-room k b d.room;
          long = λ m. let z : length w + suc m ≡ length (w ++ b ∷ []) + m = omega (arith, length-append w (b ∷ [])) in
              keep-long k b m d.room ∙ d.long (suc m) ∙ ap capped z;
          same = λ p number l. keep_same p number k b l ∙ d.same p number (b ∷ l) ∙ ap (complete p number) (sym (append_assoc w (b ∷ []) l));
        }

  -- at its end
  pub stands-capped : (k w : List ℕ) → Stands k w → capped (length k) ≡ capped (length w)
  stands-capped k w d = sym (ap capped (add-zero (length k))) ∙ d.long 0 ∙ ap capped (add-zero (length w))

  pub stands-length : (k w : List ℕ) → Stands k w → length k ≡ capped (length w)
  stands-length k w d = sym (capped-within (length k) d.room) ∙ stands-capped k w d

  pub stands-line : (k w : List ℕ) → Stands k w → (p : P) (number : ℕ) → complete p number k ≡ complete p number w
  stands-line k w d p number = sym (ap (complete p number) (append-nil k)) ∙ d.same p number [] ∙ ap (complete p number) (append-nil w)
