-- Words written over others, from a place on. Definitions only.
use Rattle.std.specs.Prelude.{ℕ, zero, suc, List, [], ◌∷◌, take, drop}

-- m with xs written over it from place `at` on; what does not fit is left out, so the length stays
unfoldable pub over : {A : Type 0} → (at : ℕ) → (xs m : List A) → List A
over at xs [] = []
over zero [] (y ∷ m) = y ∷ m
over zero (x ∷ xs) (y ∷ m) = x ∷ over zero xs m
over (suc at) xs (y ∷ m) = y ∷ over at xs m

-- the n words of m from place `from` on
abbrev pub part : {A : Type 0} → (from n : ℕ) → (m : List A) → List A
part from n m = take n (drop from m)

-- m with its n words from place `from` on written again from place `to` on
abbrev pub moved : {A : Type 0} → (to from n : ℕ) → (m : List A) → List A
moved to from n m = over to (part from n m) m
