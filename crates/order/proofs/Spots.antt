-- Where a name belongs among names in order: a loop that goes up the names finds it, and there the name is inserted. Assumes nothing.
use mathlib.Core.Path.{◌≡◌, refl, sym, ap, ◌∙◌}
use mathlib.Core.Bool.{Bool, true, false}
use mathlib.Core.List.{List, [], ◌∷◌, ◌++◌}
use Prim.Native.Nat.{ℕ, suc, ◌+◌, ◌≤◌, ◌<◌}
use native.Mathlib.Nat.{add-zero, add_assoc, zero-add}
use native.Mathlib.Omega.{arith}
use lib.ListN.{length, take, drop, get_or}
use Rattle.std.specs.Prelude.{if◌then◌else◌, Option, None, Some}
use Rattle.plain.specs.Lists.{equal}
use Rattle.words.proofs.Steps.{drop-next, drop-end}
use Rattle.order.specs.Order.{before, inserted}
use Rattle.order.specs.Places.{later, spot}

later-none : (s : Option ℕ) → later 0 s ≡ s
later-none (Some j) = ap Some (zero-add j)
later-none None = refl

later-later : (j k : ℕ) (s : Option ℕ) → later j (later k s) ≡ later (j + k) s
later-later j k (Some i) = ap Some (sym (add_assoc j k i))
later-later j k None = refl

module _ (n : List ℕ) (ks : List (List ℕ)) where
  pub spot-first : spot n ks ≡ later 0 (spot n (drop 0 ks))
  spot-first = sym (later-none (spot n ks))

  module _ (at : ℕ) where
    pub spot-end : at ≤ length ks → length ks ≤ at → later at (spot n (drop at ks)) ≡ Some at
    unfolding spot
    spot-end h k = ap (λ (l : List (List ℕ)). later at (spot n l)) (drop-end ks at h k) ∙ ap Some (add-zero at)

    module _ (d : List ℕ) (h : at < length ks) where
      pub spot-here : before n (get_or ks at d) ≡ true → later at (spot n (drop at ks)) ≡ Some at
      unfolding spot
      spot-here e = ap (λ (l : List (List ℕ)). later at (spot n l)) (drop-next ks at d h) ∙ rw e (ap Some (add-zero at))

      module _ (e : before n (get_or ks at d) ≡ false) where
        pub spot-held : equal n (get_or ks at d) ≡ true → later at (spot n (drop at ks)) ≡ None
        unfolding spot
        spot-held f = ap (λ (l : List (List ℕ)). later at (spot n l)) (drop-next ks at d h) ∙ rw (e, f)

        pub spot-next : equal n (get_or ks at d) ≡ false → later at (spot n (drop at ks)) ≡ later (at + 1) (spot n (drop (at + 1) ks))
        unfolding spot
        spot-next f = ap (λ (l : List (List ℕ)). later at (spot n l)) (drop-next ks at d h) ∙ rw (e, f) (later-later at 1 (spot n (drop (at + 1) ks)))

-- ---- the name is inserted at its spot

abbrev inserted_at : Option ℕ → List ℕ → List (List ℕ) → List (List ℕ)
inserted_at (Some j) n ks = take j ks ++ (n ∷ drop j ks)
inserted_at None n ks = ks

inserted_at-next : (s : Option ℕ) (n k : List ℕ) (ks : List (List ℕ)) → inserted_at (later 1 s) n (k ∷ ks) ≡ k ∷ inserted_at s n ks
inserted_at-next (Some j) n k ks = ap (λ (i : ℕ). take i (k ∷ ks) ++ (n ∷ drop i (k ∷ ks))) (one j)
  where
    one : (j : ℕ) → 1 + j ≡ suc j
    one j = omega arith
inserted_at-next None n k ks = refl

inserted-spot : (n : List ℕ) (ks : List (List ℕ)) → inserted n ks ≡ inserted_at (spot n ks) n ks
unfolding inserted spot
inserted-spot n [] = refl
inserted-spot n (k ∷ ks) = by (before n k) (equal n k) (inserted-spot n ks)
  where
    by : (s t : Bool) → inserted n ks ≡ inserted_at (spot n ks) n ks
        → (if s then n ∷ k ∷ ks else (if t then k ∷ ks else (k ∷ inserted n ks)))
        ≡ inserted_at (if s then Some 0 else (if t then None else later 1 (spot n ks))) n (k ∷ ks)
    by true t r = refl
    by false true r = refl
    by false false r = ap (λ (l : List (List ℕ)). k ∷ l) r ∙ sym (inserted_at-next (spot n ks) n k ks)

pub spot-within : (n : List ℕ) (ks : List (List ℕ)) (j : ℕ) → spot n ks ≡ Some j → j ≤ length ks
unfolding spot
spot-within n [] j e = let z : 0 ≡ j = cc in omega arith
spot-within n (k ∷ ks) j e = by (before n k) (equal n k) e (λ i f. spot-within n ks i f)
  where
    more : (s : Option ℕ) → ((i : ℕ) → s ≡ Some i → i ≤ length ks) → later 1 s ≡ Some j → j ≤ suc (length ks)
    more (Some i) r f = let z : 1 + i ≡ j = cc in omega (arith, r i refl)
    more None r f = absurd (let z : ◌≡◌ {A = ℕ} 0 1 = cc in omega arith)

    by : (s t : Bool) → (if s then Some 0 else (if t then None else later 1 (spot n ks))) ≡ Some j → ((i : ℕ) → spot n ks ≡ Some i → i ≤ length ks) → j ≤ suc (length ks)
    by true t f r = let z : 0 ≡ j = cc in omega arith
    by false true f r = absurd (let z : ◌≡◌ {A = ℕ} 0 1 = cc in omega arith)
    by false false f r = more (spot n ks) r f

module _ (n : List ℕ) (ks : List (List ℕ)) where
  pub inserted-here : (j : ℕ) → spot n ks ≡ Some j → inserted n ks ≡ take j ks ++ (n ∷ drop j ks)
  inserted-here j e = inserted-spot n ks ∙ ap (λ (s : Option ℕ). inserted_at s n ks) e

  pub inserted-held : spot n ks ≡ None → inserted n ks ≡ ks
  inserted-held e = inserted-spot n ks ∙ ap (λ (s : Option ℕ). inserted_at s n ks) e
