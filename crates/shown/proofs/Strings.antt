-- Strings in the bytes of a memory: a string's bytes are those after the bytes of all before it. Assumes nothing.
use mathlib.Core.Path.{◌≡◌, refl, sym, ap, ap₂, ◌∙◌}
use mathlib.Core.Bool.{true}
use mathlib.Core.List.{List, [], ◌∷◌}
use Prim.Native.Nat.{ℕ, zero, suc, ◌+◌, ◌/◌, ◌≤◌, ◌<◌}
use native.Mathlib.Nat.{not-suc-le-zero, le_of_suc-le-suc}
use native.Mathlib.Omega.{arith}
use borrow.Author.Tests.{leb-true}
use lib.Dec.{leb}
use lib.ListN.{length, take, drop, get_or}
use lib.Seq.{drop-drop}
use Rattle.plain.proofs.Each.{Each, each_at}
use Rattle.value.specs.Strings.{STRING}
use Rattle.words.specs.Over.{part}
use Rattle.words.specs.Halves.{upper, lower, sum}
use Rattle.words.proofs.Halves.{sum-parts, sum-take-next}
use Rattle.words.proofs.Steps.{drop-next, sum-next}
use Rattle.layout.specs.Memory.{cut_strings, bytes_taken}
use Rattle.layout.specs.Damage.{total_bytes}
use Rattle.layout.proofs.Passing.{total-parts}
use Rattle.variables.proofs.Strings.{part-front}

-- lengths within the longest
abbrev pub Short : List ℕ → Type 0
Short ls = Each (λ n. leb n STRING ≡ true) ls

-- ---- the string at a place

pub string-at : (ls bs : List ℕ) (i : ℕ) → Short ls → i < length ls → get_or (cut_strings ls bs) i [] ≡ part (sum (take i ls)) (get_or ls i 0) bs
unfolding cut_strings sum
string-at [] bs i f h = absurd (not-suc-le-zero h)
string-at (n ∷ ls) bs zero f h = refl
string-at (n ∷ ls) bs (suc i) f h =
    let s : n ≤ STRING = leb-true n STRING f.0 in
    let e : n + sum (take i ls) ≡ lower n + sum (take i ls) = omega arith in
    string-at ls (drop n bs) i f.1 (le_of_suc-le-suc h)
    ∙ ap (take (get_or ls i 0)) (drop-drop (sum (take i ls)) n bs ∙ ap (λ (k : ℕ). drop k bs) e)

-- where it ends, and the next one begins
module _ (ls : List ℕ) (i : ℕ) (f : Short ls) (h : i < length ls) where
  whole : lower (get_or ls i 0) ≡ get_or ls i 0
  whole = let s : get_or ls i 0 ≤ STRING = leb-true (get_or ls i 0) STRING (each_at (λ n. leb n STRING ≡ true) ls i 0 h f) in omega arith

  pub string-next : sum (take (i + 1) ls) ≡ sum (take i ls) + get_or ls i 0
  string-next = sum-take-next i ls h ∙ ap (λ (k : ℕ). sum (take i ls) + k) whole

  pub string-within : sum (take i ls) + get_or ls i 0 ≤ sum ls
  string-within = omega (arith, whole, sum-parts i ls, sum-next ls i h)

-- ---- strings within the first bytes

pub cut-front : (ls bs : List ℕ) (o n : ℕ) → Short ls → o + sum ls ≤ n → cut_strings ls (drop o (take n bs)) ≡ cut_strings ls (drop o bs)
unfolding cut_strings sum
cut-front [] bs o n f h = refl
cut-front (l ∷ ls) bs o n f h =
    let s : l ≤ STRING = leb-true l STRING f.0 in
    let r = cut-front ls bs (o + l) n f.1 (omega arith) in
    ap₂ (λ (x : List ℕ) (y : List (List ℕ)). x ∷ y) (part-front o l n bs (omega arith))
    (ap (cut_strings ls) (drop-drop l o (take n bs)) ∙ r ∙ ap (cut_strings ls) (sym (drop-drop l o bs)))

-- ---- the bytes of the statements before place k and of the one there are no more than all

pub bytes-within : (k : ℕ) (hs vs : List ℕ) → k < length hs
    → total_bytes (take k hs) vs + bytes_taken (upper (get_or hs k 0) / 2) (part (sum (take k hs)) (lower (get_or hs k 0)) vs) ≤ total_bytes hs vs
unfolding total_bytes
bytes-within k hs vs h = omega (arith, total-parts k hs vs, ap (λ (l : List ℕ). total_bytes l (drop (sum (take k hs)) vs)) (drop-next hs k 0 h))
