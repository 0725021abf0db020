-- A place put among others, those from there on moving up by one. Assumes nothing.
use mathlib.Core.Path.{◌≡◌, sym, ap, ap₂, subst, ◌∙◌}
use mathlib.Core.Bool.{Bool, true}
use mathlib.Core.List.{List, [], ◌∷◌, ◌++◌, map, map-append}
use Prim.Native.Nat.{ℕ, suc, ◌+◌, ◌-◌, ◌≤◌, ◌<◌}
use native.Mathlib.Omega.{arith}
use borrow.Author.Tests.{lt-ltb}
use lib.Dec.{ltb}
use lib.ListN.{length, take, drop, set, length-drop, length-map}
use lib.Seq.{paste, length-take-le, take-add, take_at, drop_at}
use Rattle.plain.proofs.Each.{Each, each_append, each_left, each_right}
use Rattle.words.specs.Over.{over, part}
use Rattle.words.specs.Halves.{all}
use Rattle.words.proofs.Over.{over-one, over-append, over-comm, paste-over, take-over, part-over, length_over}
use Rattle.words.proofs.Each.{all-each, each_all}
use Rattle.order.specs.Places.{Places, name_count, name_at, names_at, raised}

-- the places from there on copied up by one, and then the place stored
pub raised-copied : (at held place : ℕ) (ps : List ℕ) → at ≤ held → held < length ps → set (paste ps (at + 1) (drop at ps) (held - at)) at place ≡ raised at held place ps
raised-copied at held place ps h k =
    let xs : List ℕ = part at (held - at) ps in
    let e : paste ps (at + 1) (drop at ps) (held - at) ≡ over (at + 1) xs ps = paste-over (at + 1) (held - at) (drop at ps) ps (omega (arith, length-drop at ps)) (omega arith) in
    ap (λ (l : List ℕ). set l at place) e
    ∙ over-one at place (over (at + 1) xs ps)
    ∙ sym (over-comm at (place ∷ []) (at + 1) xs ps (omega arith))
    ∙ sym (over-append at (place ∷ []) xs ps)

-- ---- the first places after it, and the names at them

-- what is written is read back, after what stood before it
take-over-through : {A : Type 0} (at : ℕ) (xs m : List A) → at + length xs ≤ length m → take (at + length xs) (over at xs m) ≡ take at m ++ xs
take-over-through at xs m h =
    take-add at (length xs) (over at xs m) ∙ ap₂ (λ (a b : _). a ++ b) (take-over at at xs m (omega arith)) (part-over at xs m h)

module _ (at held place : ℕ) (ps : List ℕ) (h : at ≤ held) (k : held < length ps) where
  take-raised : take (held + 1) (raised at held place ps) ≡ take at ps ++ (place ∷ part at (held - at) ps)
  take-raised =
      let l : length (part at (held - at) ps) ≡ held - at = length-take-le (held - at) (drop at ps) (omega (arith, length-drop at ps)) in
      let e : held + 1 ≡ at + suc (length (part at (held - at) ps)) = omega arith in
      ap (λ (n : ℕ). take n (raised at held place ps)) e ∙ take-over-through at (place ∷ part at (held - at) ps) ps (omega arith)

  -- the places that were first
  split : take held ps ≡ take at ps ++ part at (held - at) ps
  split = let e : held ≡ at + (held - at) = omega arith in ap (λ (n : ℕ). take n ps) e ∙ take-add at (held - at) ps

  pub names-raised : (ws : List ℕ) → names_at ws (held + 1) (raised at held place ps)
      ≡ take at (names_at ws held ps) ++ (name_at ws place ∷ drop at (names_at ws held ps))
  names-raised ws =
      let f : ℕ → List ℕ = name_at ws in
      let a : List (List ℕ) = map f (take at ps) in
      let b : List (List ℕ) = map f (part at (held - at) ps) in
      let l : length (map f (take at ps)) ≡ at = length-map (take at ps) f ∙ length-take-le at ps (omega arith) in
      let e : names_at ws held ps ≡ a ++ b = ap (map f) split ∙ map-append f (take at ps) (part at (held - at) ps) in
      ap (map f) take-raised
      ∙ map-append f (take at ps) (place ∷ part at (held - at) ps)
      ∙ sym (ap₂ (λ (a b : List (List ℕ)). a ++ (f place ∷ b)) (ap (take at) e ∙ take_at a b at l) (ap (drop at) e ∙ drop_at a b at l))

  pub places-raised : (ws : List ℕ) → place < name_count ws → Places ws held ps → Places ws (held + 1) (raised at held place ps)
  places-raised ws p P =
      let q : ℕ → Bool = λ p. ltb p (name_count ws) in
      let Q : ℕ → Type 0 = λ p. ltb p (name_count ws) ≡ true in
      let e : Each Q (take at ps ++ part at (held - at) ps) = subst (Each Q) split (all-each q (take held ps) P.within) in
      record {
        few = omega (arith, length_over at (place ∷ part at (held - at) ps) ps);
        within =
            ap (all q) take-raised
            ∙ each_all q (take at ps ++ (place ∷ part at (held - at) ps))
            (each_append Q (take at ps) (place ∷ part at (held - at) ps) (each_left Q (take at ps) (part at (held - at) ps) e)
            (lt-ltb place (name_count ws) p, each_right Q (take at ps) (part at (held - at) ps) e));
      }
