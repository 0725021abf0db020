-- A loop over heads and the values that they count: what is left at head i is that head's values and what is left at the next.
-- Assumes nothing.
use mathlib.Core.Path.{◌≡◌, refl, sym, ap, ap₂, ◌∙◌}
use mathlib.Core.Bool.{Bool, true, false}
use mathlib.Core.List.{List, [], ◌∷◌, ◌++◌}
use Prim.Native.Nat.{ℕ, zero, suc, ◌+◌, ◌-◌, ◌*◌, ◌/◌, ◌≤◌, ◌<◌}
use native.Mathlib.Nat.{zero-add}
use native.Mathlib.Omega.{arith}
use lib.Dec.{eqb}
use lib.ListN.{length, take, drop, get_or, length-take, length-drop}
use lib.Seq.{drop-drop, take-append-le, drop-append-le}
use Rattle.std.specs.Prelude.{if◌then◌else◌}
use Rattle.words.specs.Halves.{upper, lower, sum, all}
use Rattle.words.proofs.Steps.{drop-next, drop-end, sum-next}
use Rattle.layout.specs.Memory.{bytes_taken}
use Rattle.layout.specs.Damage.{fits, all_fit, total_bytes}

-- ---- one head

module _ (hs vs : List ℕ) (i at n : ℕ) (h : i < length hs) (e : n ≡ lower (get_or hs i 0)) where
  abbrev head : ℕ
  head = get_or hs i 0

  abbrev end : ℕ
  end = at + n

  -- its values, as a slice up to their end is read
  abbrev here : List ℕ
  here = take (end - at) (drop at vs)

  counted-here : here ≡ take (lower head) (drop at vs)
  counted-here = let q : end - at ≡ lower head = omega arith in ap (λ (k : ℕ). take k (drop at vs)) q

  behind : drop (lower head) (drop at vs) ≡ drop end vs
  behind = drop-drop (lower head) at vs ∙ ap (λ (k : ℕ). drop (at + k) vs) (sym e)

  pub few-here : {n : ℕ} → length vs ≤ n → length here ≤ n
  few-here k = omega (arith, length-take (end - at) (drop at vs), length-drop at vs)

  pub sum_left : at + sum (drop i hs) ≡ end + sum (drop (i + 1) hs)
  sum_left = omega (arith, sum-next hs i h)

  pub total-next : total_bytes (drop i hs) (drop at vs) ≡ bytes_taken (upper head / 2) here + total_bytes (drop (i + 1) hs) (drop end vs)
  unfolding total_bytes
  total-next =
      ap (λ (l : List ℕ). total_bytes l (drop at vs)) (drop-next hs i 0 h)
      ∙ ap₂ (λ (x y : List ℕ). bytes_taken (upper head / 2) x + total_bytes (drop (i + 1) hs) y) (sym counted-here) behind

  fit-here : (t : Bool) → all (fits (upper head / 2)) here ≡ t → all_fit (drop i hs) (drop at vs) ≡ (if t then all_fit (drop (i + 1) hs) (drop end vs) else false)
  unfolding all_fit
  fit-here t f =
      ap (λ (l : List ℕ). all_fit l (drop at vs)) (drop-next hs i 0 h)
      ∙ ap₂ (λ (b : Bool) (y : List ℕ). if b then all_fit (drop (i + 1) hs) y else false) (sym (ap (all (fits (upper head / 2))) counted-here) ∙ f) behind

  pub fit_next : all (fits (upper head / 2)) here ≡ true → all_fit (drop (i + 1) hs) (drop end vs) ≡ all_fit (drop i hs) (drop at vs)
  fit_next f = sym (fit-here true f)

  pub fit-stop : all (fits (upper head / 2)) here ≡ false → false ≡ all_fit (drop i hs) (drop at vs)
  fit-stop f = sym (fit-here false f)

-- ---- no head

pub total-end : (hs vs : List ℕ) (i : ℕ) → i ≤ length hs → length hs ≤ i → total_bytes (drop i hs) vs ≡ 0
unfolding total_bytes
total-end hs vs i h k = ap (λ (l : List ℕ). total_bytes l vs) (drop-end hs i h k)

pub fit-end : (hs vs : List ℕ) (i : ℕ) → i ≤ length hs → length hs ≤ i → true ≡ all_fit (drop i hs) vs
unfolding all_fit
fit-end hs vs i h k = sym (ap (λ (l : List ℕ). all_fit l vs) (drop-end hs i h k))

-- ---- some heads, and those from there on

pub total-parts : (k : ℕ) (hs vs : List ℕ) → total_bytes (take k hs) vs + total_bytes (drop k hs) (drop (sum (take k hs)) vs) ≡ total_bytes hs vs
unfolding total_bytes sum
total-parts zero hs vs = zero-add (total_bytes hs vs)
total-parts (suc k) [] vs = refl
total-parts (suc k) (h ∷ hs) vs =
    let n = lower h in
    let e : total_bytes (drop k hs) (drop (n + sum (take k hs)) vs) ≡ total_bytes (drop k hs) (drop (sum (take k hs)) (drop n vs)) = ap (total_bytes (drop k hs)) (sym (drop-drop (sum (take k hs)) n vs)) in
    omega (arith, e, total-parts k hs (drop n vs))

-- values that no head counts
pub total-append : (hs vs ws : List ℕ) → sum hs ≤ length vs → total_bytes hs (vs ++ ws) ≡ total_bytes hs vs
unfolding total_bytes sum
total-append [] vs ws k = refl
total-append (h ∷ hs) vs ws k =
    let n = lower h in
    ap₂ (λ (x y : List ℕ). bytes_taken (upper h / 2) x + total_bytes hs y) (take-append-le n vs ws (omega arith)) (drop-append-le n vs ws (omega arith))
    ∙ ap (λ (y : ℕ). bytes_taken (upper h / 2) (take n vs) + y) (total-append hs (drop n vs) ws (omega (arith, length-drop n vs)))

-- ---- no sum is large: each value adds less than 2^32

abbrev pub MOST : ℕ
MOST = 4294967295

sum-most : (ws : List ℕ) → sum ws ≤ MOST * length ws
unfolding sum
sum-most [] = omega arith
sum-most (w ∷ ws) = omega (arith, sum-most ws)

taken-most : (k : ℕ) (ws : List ℕ) → bytes_taken k ws ≤ MOST * length ws
taken-most k ws = by (eqb k 0)
  where
    by : (t : Bool) → (if t then 0 else sum ws) ≤ MOST * length ws
    by true = omega arith
    by false = sum-most ws

pub total-most : (hs vs : List ℕ) → sum hs ≤ length vs → total_bytes hs vs ≤ MOST * length vs
unfolding total_bytes sum
total-most [] vs h = omega arith
total-most (w ∷ hs) vs h =
    let d = length-drop (lower w) vs in
    let t = length-take (lower w) vs in
    omega (arith, taken-most (upper w / 2) (take (lower w) vs), total-most hs (drop (lower w) vs) (omega arith))
