-- One writing after another is the writing of both, and has room where both have. Assumes nothing.
use mathlib.Core.Path.{◌≡◌, sym, ap, subst, ◌∙◌}
use mathlib.Core.List.{List, [], ◌++◌}
use Prim.Native.Nat.{ℕ}
use native.Mathlib.Nat.{add-zero}
use native.Mathlib.Omega.{arith}
use lib.ListN.{length, length-append}
use Rattle.words.specs.Over.{over}
use Rattle.words.specs.Placed.{Room, Writes}
use Rattle.words.proofs.Over.{over-nil, over-append, length_over}

-- the buffer keeps its length
pub writes-length : {at : ℕ} {xs m : List ℕ} {r : ℕ} {n : List ℕ} → Writes at xs m r n → length n ≡ length m
writes-length {at} {xs} {m} w = ap length w.output ∙ length_over at xs m

pub writes_nothing : (at : ℕ) (m : List ℕ) → Writes at [] m at m
writes_nothing at m = record { next = sym (add-zero at); output = sym (over-nil at m) }

pub writes-same : {at : ℕ} {xs ys m : List ℕ} {r : ℕ} {n : List ℕ} → xs ≡ ys → Writes at xs m r n → Writes at ys m r n
writes-same {at} {m = m} {r = r} {n = n} e w = subst (λ (l : List ℕ). Writes at l m r n) e w

module _ {at : ℕ} (xs ys : List ℕ) {m : List ℕ} where
  pub room-first : Room at (xs ++ ys) m → Room at xs m
  room-first f = record { fits = omega (arith, f.fits, length-append xs ys) }

  pub room-then : {r : ℕ} {n : List ℕ} → Room at (xs ++ ys) m → Writes at xs m r n → Room r ys n
  room-then f w = record { fits = omega (arith, f.fits, length-append xs ys, w.next, writes-length w) }

  pub writes_then : {r s : ℕ} {n o : List ℕ} → Writes at xs m r n → Writes r ys n s o → Writes at (xs ++ ys) m s o
  writes_then v w =
      record {
        next = omega (arith, v.next, w.next, length-append xs ys);
        output = w.output ∙ (λ i. over (v.next i) ys (v.output i)) ∙ sym (over-append at xs ys m);
      }
