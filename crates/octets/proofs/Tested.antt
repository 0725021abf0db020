-- A test of every byte, a byte or a word at a time: what is left to test is what was to test. Assumes nothing.
use mathlib.Core.Path.{◌≡◌, sym, ap, ap₂, ◌∙◌}
use mathlib.Core.Bool.{Bool, true, false}
use mathlib.Core.List.{List, [], ◌∷◌, ◌++◌}
use Prim.Native.Nat.{ℕ, suc, ◌+◌, ◌-◌, ◌*◌, ◌/◌, ◌≤◌, ◌<◌}
use native.Mathlib.Omega.{arith}
use lib.ListN.{length, take, drop, get_or}
use lib.Seq.{take-add, drop-drop}
use Rattle.std.specs.Prelude.{if◌then◌else◌}
use Rattle.words.specs.Over.{part}
use Rattle.words.specs.Halves.{all}
use Rattle.words.proofs.Steps.{drop-next}

-- ---- two lists tested one after the other

module _ (p : ℕ → Bool) where
  all_append : (xs ys : List ℕ) (t : Bool) → all p xs ≡ t → all p (xs ++ ys) ≡ (if t then all p ys else false)
  unfolding all
  all_append [] ys t e = rw (sym e)
  all_append (x ∷ xs) ys t e = by (p x) e (λ q. all_append xs ys t q)
    where
      by : (s : Bool) → (if s then all p xs else false) ≡ t → (all p xs ≡ t → all p (xs ++ ys) ≡ (if t then all p ys else false))
          → (if s then all p (xs ++ ys) else false) ≡ (if t then all p ys else false)
      by true q r = r q
      by false q r = rw (sym q)

-- ---- a byte at a time

pub tested-start : (p : ℕ → Bool) (bs : List ℕ) (from n : ℕ) → all p (part (from + 0) (n - 0) bs) ≡ all p (part from n bs)
tested-start p bs from n =
    let q : n - 0 ≡ n = omega arith in
    let r : from + 0 ≡ from = omega arith in
    ap₂ (λ (a k : ℕ). all p (part a k bs)) r q

module _ (p : ℕ → Bool) (bs : List ℕ) (from n i : ℕ) (h : from + n ≤ length bs) where
  byte-here : i < n → part (from + i) (n - i) bs ≡ get_or bs (from + i) 0 ∷ part (from + (i + 1)) (n - (i + 1)) bs
  byte-here l =
      let q : n - i ≡ suc (n - (i + 1)) = omega arith in
      let r : from + i + 1 ≡ from + (i + 1) = omega arith in
      ap₂ (λ (k : ℕ) (x : List ℕ). take k x) q (drop-next bs (from + i) 0 (omega arith))
      ∙ ap (λ (k : ℕ). get_or bs (from + i) 0 ∷ part k (n - (i + 1)) bs) r

  pub tested-next : i < n → p (get_or bs (from + i) 0) ≡ true → all p (part (from + (i + 1)) (n - (i + 1)) bs) ≡ all p (part (from + i) (n - i) bs)
  unfolding all
  tested-next l e = sym (ap (all p) (byte-here l) ∙ rw e)

  pub tested-stop : i < n → p (get_or bs (from + i) 0) ≡ false → false ≡ all p (part (from + i) (n - i) bs)
  unfolding all
  tested-stop l e = sym (ap (all p) (byte-here l) ∙ rw e)

  pub tested-end : n ≤ i → true ≡ all p (part (from + i) (n - i) bs)
  unfolding all
  tested-end l = let q : n - i ≡ 0 = omega arith in sym (ap (λ (k : ℕ). all p (part (from + i) k bs)) q)

-- ---- a word at a time

module _ (p : ℕ → Bool) (bs : List ℕ) (n k : ℕ) (h : k < n / 8) where
  word-here : part (8 * k) (n - 8 * k) bs ≡ part (8 * k) 8 bs ++ part (8 * (k + 1)) (n - 8 * (k + 1)) bs
  word-here =
      let q : n - 8 * k ≡ 8 + (n - 8 * (k + 1)) = omega arith in
      let r : 8 * k + 8 ≡ 8 * (k + 1) = omega arith in
      ap (λ (i : ℕ). part (8 * k) i bs) q ∙ take-add 8 (n - 8 * (k + 1)) (drop (8 * k) bs)
      ∙ ap (λ (x : List ℕ). part (8 * k) 8 bs ++ take (n - 8 * (k + 1)) x) (drop-drop 8 (8 * k) bs ∙ ap (λ (i : ℕ). drop i bs) r)

  pub words-next : all p (part (8 * k) 8 bs) ≡ true → all p (part (8 * (k + 1)) (n - 8 * (k + 1)) bs) ≡ all p (part (8 * k) (n - 8 * k) bs)
  words-next e = sym (ap (all p) word-here ∙ all_append p (part (8 * k) 8 bs) (part (8 * (k + 1)) (n - 8 * (k + 1)) bs) true e)

  pub words-stop : all p (part (8 * k) 8 bs) ≡ false → false ≡ all p (part (8 * k) (n - 8 * k) bs)
  words-stop e = sym (ap (all p) word-here ∙ all_append p (part (8 * k) 8 bs) (part (8 * (k + 1)) (n - 8 * (k + 1)) bs) false e)
