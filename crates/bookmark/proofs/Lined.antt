-- The words of the kept line: they are its bytes written over zeros, so that the first of their bytes are the line. Assumes nothing.
use Prim.Native.Nat.{ℕ, zero, suc, ◌+◌, ◌*◌, ◌≤◌, ◌<◌}
use native.Mathlib.Numerals.{add-one}
use native.Mathlib.Omega.{arith}
use mathlib.Core.Path.{◌≡◌, refl, sym, ap, ap₂, ◌∙◌}
use mathlib.Core.List.{List, [], ◌∷◌, ◌++◌}
use lib.ListN.{length, take, drop, get_or, replicate}
use lib.Seq.{get_or-drop, take-suc, length-take-le}
use Rattle.plain.proofs.Each.{Each, each_take}
use Rattle.words.specs.Over.{over}
use Rattle.octets.specs.Octets.{octets, packed, inked}
use Rattle.octets.proofs.Bytes.{Bytes, length-octets}
use Rattle.octets.proofs.Eight.{word}
use Rattle.octets.proofs.Inked.{inked-append, read_back}
use Rattle.bookmark.specs.Limits.{LINEWORDS}

-- packing asks what stands at each place, and takes no more for a zero than for an end
packed-same : (n : ℕ) (xs ys : List ℕ) → ((i : ℕ) → get_or xs i 0 ≡ get_or ys i 0) → packed n xs ≡ packed n ys
unfolding packed
packed-same zero xs ys f = refl
packed-same (suc n) xs ys f =
    ap₂ (λ (w : ℕ) (ws : List ℕ). w ∷ ws) (λ i. word (f 0 i) (f 1 i) (f 2 i) (f 3 i) (f 4 i) (f 5 i) (f 6 i) (f 7 i))
    (packed-same n (drop 8 xs) (drop 8 ys) (λ i. get_or-drop 8 xs i 0 ∙ f (8 + i) ∙ sym (get_or-drop 8 ys i 0)))

abbrev Zeros : List ℕ → Type 0
Zeros zs = Each (λ z. z ≡ 0) zs

zeros-octets : (n : ℕ) → Zeros (octets (replicate n 0))
unfolding octets
zeros-octets zero = tt
zeros-octets (suc n) = (refl, (refl, (refl, (refl, (refl, (refl, (refl, (refl, zeros-octets n))))))))

zeros-at : (zs : List ℕ) → Zeros zs → (i : ℕ) → get_or zs i 0 ≡ 0
zeros-at [] f i = refl
zeros-at (z ∷ zs) f zero = f.0
zeros-at (z ∷ zs) f (suc i) = zeros-at zs f.1 i

over_zeros : (bs zs : List ℕ) → Zeros zs → length bs ≤ length zs → (i : ℕ) → get_or (over 0 bs zs) i 0 ≡ get_or bs i 0
unfolding over
over_zeros [] [] f h i = refl
over_zeros [] (z ∷ zs) f h i = zeros-at (z ∷ zs) f i
over_zeros (b ∷ bs) [] f h i = absurd (omega arith)
over_zeros (b ∷ bs) (z ∷ zs) f h zero = refl
over_zeros (b ∷ bs) (z ∷ zs) f h (suc i) = over_zeros bs zs f.1 (omega arith) i

module _ (bs : List ℕ) (h : length bs ≤ 8 * LINEWORDS) where
  pub inked-zeros : inked 0 bs (replicate LINEWORDS 0) ≡ packed LINEWORDS bs
  unfolding inked
  inked-zeros = packed-same LINEWORDS _ bs (over_zeros bs (octets (replicate LINEWORDS 0)) (zeros-octets LINEWORDS) (rw length-octets h))

  pub line-back : Bytes bs → take (length bs) (octets (packed LINEWORDS bs)) ≡ bs
  line-back f = ap (λ (ws : List ℕ). take (length bs) (octets ws)) (sym inked-zeros) ∙ read_back 0 bs (replicate LINEWORDS 0) f (omega arith)

-- ---- written one byte after the other

module _ (bs : List ℕ) (f : Bytes bs) where
  pub packed-on : (i : ℕ) → i < length bs → i < 8 * LINEWORDS → inked i (get_or bs i 0 ∷ []) (packed LINEWORDS (take i bs)) ≡ packed LINEWORDS (take (i + 1) bs)
  packed-on i h g =
      let z : List ℕ = replicate LINEWORDS 0 in
      let l : length (take i bs) ≡ i = length-take-le i bs (omega arith) in
      let t : take (i + 1) bs ≡ take i bs ++ get_or bs i 0 ∷ [] = rw add-one (take-suc bs i 0 h) in
      let a : inked 0 (take i bs ++ get_or bs i 0 ∷ []) z ≡ inked (0 + length (take i bs)) (get_or bs i 0 ∷ []) (inked 0 (take i bs) z) =
      inked-append 0 (take i bs) (get_or bs i 0 ∷ []) z (each_take (λ b. b < 256) i bs f) in
      let n : 0 + length (take i bs) ≡ i = omega arith in
      ap₂ (λ (k : ℕ) (ws : List ℕ). inked k (get_or bs i 0 ∷ []) ws) (sym n) (sym (inked-zeros (take i bs) (omega arith)))
      ∙ sym a
      ∙ ap (λ (l : List ℕ). inked 0 l z) (sym t)
      ∙ inked-zeros (take (i + 1) bs) (omega (arith, length-take-le (i + 1) bs (omega arith)))
