-- What is written for each element of a list, one after the other. Assumes nothing.
use mathlib.Core.Path.{◌≡◌, sym, ap, subst, ◌∙◌}
use mathlib.Core.List.{List, [], ◌∷◌, ◌++◌}
use Prim.Native.Nat.{ℕ, ◌+◌, ◌≤◌, ◌<◌}
use native.Mathlib.Numerals.{add-one}
use native.Mathlib.Omega.{arith}
use lib.ListN.{length, take, drop, get_or, length-append, take-append-drop}
use lib.Seq.{take-suc, take_all}
use Rattle.words.specs.Placed.{Room, Writes}
use Rattle.words.proofs.Placed.{writes_nothing, room-first, room-then, writes_then}
use Rattle.words.proofs.Steps.{drop-next}
use Rattle.layout.specs.State.{flat}
use Rattle.layout.proofs.Columns.{flat_append, flat-one}

module _ {A B : Type 0} (f : A → List B) (xs : List A) (i : ℕ) (d : A) (h : i < length xs) where
  pub flat-next : flat f (take (i + 1) xs) ≡ flat f (take i xs) ++ f (get_or xs i d)
  flat-next =
      ap (flat f) (ap (λ (k : ℕ). take k xs) (add-one i) ∙ take-suc xs i d h)
      ∙ flat_append f (take i xs) (get_or xs i d ∷ [])
      ∙ ap (λ (l : List B). flat f (take i xs) ++ l) (flat-one f (get_or xs i d))

  flat-split : flat f xs ≡ flat f (take i xs) ++ (f (get_or xs i d) ++ flat f (drop (i + 1) xs))
  unfolding flat
  flat-split =
      ap (flat f) (sym (take-append-drop i xs) ∙ ap (λ (l : List A). take i xs ++ l) (drop-next xs i d h))
      ∙ flat_append f (take i xs) (get_or xs i d ∷ drop (i + 1) xs)

  -- what is there so far and the next are no more than all
  pub flat-within : length (flat f (take i xs)) + length (f (get_or xs i d)) ≤ length (flat f xs)
  flat-within =
      let rest = flat f (drop (i + 1) xs) in
      omega
      (arith, ap length flat-split, length-append (flat f (take i xs)) (f (get_or xs i d) ++ rest), length-append (f (get_or xs i d)) rest)

module _ {A : Type 0} (f : A → List ℕ) (xs : List A) (i : ℕ) (d : A) (h : i < length xs) {at : ℕ} {m : List ℕ} {r : ℕ} {n : List ℕ}
    (w : Writes at (flat f (take i xs)) m r n) where
  pub room_next : Room at (flat f xs) m → Room r (f (get_or xs i d)) n
  room_next k =
      let rest = flat f (drop (i + 1) xs) in
      room-first (f (get_or xs i d)) rest
      (room-then (flat f (take i xs)) (f (get_or xs i d) ++ rest) (subst (λ (l : List ℕ). Room at l m) (flat-split f xs i d h) k) w)

  pub writes-next : {s : ℕ} {o : List ℕ} → Writes r (f (get_or xs i d)) n s o → Writes at (flat f (take (i + 1) xs)) m s o
  writes-next {s} {o} v = subst (λ (l : List ℕ). Writes at l m s o) (sym (flat-next f xs i d h)) (writes_then (flat f (take i xs)) (f (get_or xs i d)) w v)

module _ {A : Type 0} (f : A → List ℕ) (xs : List A) {at : ℕ} {m : List ℕ} where
  pub writes-none : Writes at (flat f (take 0 xs)) m at m
  unfolding flat
  writes-none = writes_nothing at m

  pub writes-all : (i : ℕ) {r : ℕ} {n : List ℕ} → length xs ≤ i → Writes at (flat f (take i xs)) m r n → Writes at (flat f xs) m r n
  writes-all i {r} {n} h w = subst (λ (l : List A). Writes at (flat f l) m r n) (take_all i xs h) w
