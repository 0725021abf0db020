-- The conditions on statements' words hold of words behind which others stand exactly where they hold of each. Assumes nothing.
use Prim.Native.Nat.{ℕ, ◌+◌, ◌*◌, ◌/◌}
use native.Mathlib.Omega.{arith}
use mathlib.Core.Path.{◌≡◌, refl, sym, ap, subst, ◌∙◌}
use mathlib.Core.Bool.{true}
use mathlib.Core.List.{List, [], ◌∷◌, ◌++◌, map}
use lib.ListN.{length, take, drop, length-drop}
use lib.Seq.{take-append-le, drop-append-le}
use Rattle.plain.proofs.Each.{Each}
use Rattle.words.specs.Halves.{upper, lower, sum}
use Rattle.words.proofs.Halves.{Different}
use Rattle.names.specs.Names.{NAMEWORDS, holds_name}
use Rattle.layout.specs.Memory.{bytes_taken}
use Rattle.layout.specs.Damage.{fits, total_bytes}
use Rattle.layout.proofs.Sound.{Named, Fitting}

none : {A : Type 0} (xs : List A) → length xs ≡ 0 → xs ≡ []
none [] e = refl
none (x ∷ xs) e = absurd (omega arith)

-- ---- names

module _ (hs' ns' : List ℕ) where
  pub named-both : (hs ns : List ℕ) → length ns ≡ NAMEWORDS * length hs → Named hs ns → Named hs' ns' → Named (hs ++ hs') (ns ++ ns')
  named-both [] ns e f g = subst (λ (l : List ℕ). Named hs' (l ++ ns')) (sym (none ns (omega arith))) g
  named-both (h ∷ hs) ns e f g =
      let x : take NAMEWORDS (ns ++ ns') ≡ take NAMEWORDS ns = take-append-le NAMEWORDS ns ns' (omega arith) in
      let y : drop NAMEWORDS (ns ++ ns') ≡ drop NAMEWORDS ns ++ ns' = drop-append-le NAMEWORDS ns ns' (omega arith) in
      (ap holds_name x ∙ f.0, subst (Named (hs ++ hs')) (sym y) (named-both hs (drop NAMEWORDS ns) (omega (arith, length-drop NAMEWORDS ns)) f.1 g))

  pub named-last : (hs ns : List ℕ) → length ns ≡ NAMEWORDS * length hs → Named (hs ++ hs') (ns ++ ns') → Named hs' ns'
  named-last [] ns e f = subst (λ (l : List ℕ). Named hs' (l ++ ns')) (none ns (omega arith)) f
  named-last (h ∷ hs) ns e f =
      let y : drop NAMEWORDS (ns ++ ns') ≡ drop NAMEWORDS ns ++ ns' = drop-append-le NAMEWORDS ns ns' (omega arith) in
      named-last hs (drop NAMEWORDS ns) (omega (arith, length-drop NAMEWORDS ns)) (subst (Named (hs ++ hs')) y f.1)

-- ---- values

pub sum-append : (xs ys : List ℕ) → sum (xs ++ ys) ≡ sum xs + sum ys
unfolding sum
sum-append [] ys = omega arith
sum-append (x ∷ xs) ys = omega (arith, sum-append xs ys)

module _ (hs' vs' : List ℕ) where
  pub fitting-both : (hs vs : List ℕ) → sum hs ≡ length vs → Fitting hs vs → Fitting hs' vs' → Fitting (hs ++ hs') (vs ++ vs')
  unfolding sum
  fitting-both [] vs e f g = subst (λ (l : List ℕ). Fitting hs' (l ++ vs')) (sym (none vs (omega arith))) g
  fitting-both (h ∷ hs) vs e f g =
      let x : take (lower h) (vs ++ vs') ≡ take (lower h) vs = take-append-le (lower h) vs vs' (omega arith) in
      let y : drop (lower h) (vs ++ vs') ≡ drop (lower h) vs ++ vs' = drop-append-le (lower h) vs vs' (omega arith) in (
        subst (Each (λ w. fits (upper h / 2) w ≡ true)) (sym x) f.0,
        subst (Fitting (hs ++ hs')) (sym y) (fitting-both hs (drop (lower h) vs) (omega (arith, length-drop (lower h) vs)) f.1 g),
      )

  pub fitting-last : (hs vs : List ℕ) → sum hs ≡ length vs → Fitting (hs ++ hs') (vs ++ vs') → Fitting hs' vs'
  unfolding sum
  fitting-last [] vs e f = subst (λ (l : List ℕ). Fitting hs' (l ++ vs')) (none vs (omega arith)) f
  fitting-last (h ∷ hs) vs e f =
      let y : drop (lower h) (vs ++ vs') ≡ drop (lower h) vs ++ vs' = drop-append-le (lower h) vs vs' (omega arith) in
      fitting-last hs (drop (lower h) vs) (omega (arith, length-drop (lower h) vs)) (subst (Fitting (hs ++ hs')) y f.1)

  -- ---- bytes

  pub bytes-append : (hs vs : List ℕ) → sum hs ≡ length vs → total_bytes (hs ++ hs') (vs ++ vs') ≡ total_bytes hs vs + total_bytes hs' vs'
  unfolding sum total_bytes
  bytes-append [] vs e = ap (λ (l : List ℕ). total_bytes hs' (l ++ vs')) (none vs (omega arith)) ∙ omega arith
  bytes-append (h ∷ hs) vs e =
      let n = lower h in
      let k = upper h / 2 in
      let x : take n (vs ++ vs') ≡ take n vs = take-append-le n vs vs' (omega arith) in
      let y : drop n (vs ++ vs') ≡ drop n vs ++ vs' = drop-append-le n vs vs' (omega arith) in
      (λ i. bytes_taken k (x i) + total_bytes (hs ++ hs') (y i)) ∙ omega (arith, bytes-append hs (drop n vs) (omega (arith, length-drop n vs)))

-- ---- labels

pub different-last : (ws : List ℕ) (y : ℕ) → Different (map upper ws ++ (y ∷ [])) → Each (λ w. upper w ≡ y → ⊥) ws
different-last [] y d = tt
different-last (w ∷ ws) y d = ((λ e. by (map upper ws) d.0 (sym e)), different-last ws y d.1)
  where
    by : (zs : List ℕ) → Each (λ z. z ≡ upper w → ⊥) (zs ++ (y ∷ [])) → y ≡ upper w → ⊥
    by [] f e = f.0 e
    by (z ∷ zs) f e = by zs f.1 e

pub map_last : {A B : Type 0} (f : A → B) (xs : List A) (y : A) → map f (xs ++ (y ∷ [])) ≡ map f xs ++ (f y ∷ [])
map_last f [] y = refl
map_last {B = B} f (x ∷ xs) y = ap (λ (l : List B). f x ∷ l) (map_last f xs y)
