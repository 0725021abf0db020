-- Bytes in an area of a memory: an area that was lent comes back, and what is written in it leaves the other areas alone. Assumes nothing.
use mathlib.Core.Path.{◌≡◌, sym, ap, ◌∙◌}
use mathlib.Core.List.{List, ◌++◌}
use Prim.Native.Nat.{ℕ, ◌+◌, ◌-◌, ◌*◌, ◌≤◌, ◌<◌}
use native.Mathlib.Omega.{arith}
use lib.ListN.{length, take, drop, length-drop}
use lib.Seq.{length-take-le}
use Rattle.words.specs.Over.{over, part}
use Rattle.words.proofs.Over.{put_back, part-before, part-after, part-over, over-comm, over-again, over-within, length_over, each_over}
use Rattle.words.proofs.Each.{WORD, Words}
use Rattle.octets.specs.Octets.{octets, inked, inked_in}
use Rattle.octets.proofs.Bytes.{Bytes, octets-over, octets-part}
use Rattle.octets.proofs.Inked.{length-inked, octets-inked, words-inked, inked-is, inked-append}

-- ---- the area after a writing, and the other areas

module _ (area n : ℕ) where
  length-area : (m : List ℕ) → area + n ≤ length m → length (part area n m) ≡ n
  length-area m h = length-take-le n (drop area m) (omega (arith, length-drop area m))

  module _ (at : ℕ) (bs m : List ℕ) (h : area + n ≤ length m) where
    wide : length (inked at bs (part area n m)) ≡ n
    wide = length-inked at bs (part area n m) ∙ length-area m h

    pub length-inked-in : length (inked_in area n at bs m) ≡ length m
    length-inked-in = length_over area (inked at bs (part area n m)) m

    pub area-inked : part area n (inked_in area n at bs m) ≡ inked at bs (part area n m)
    area-inked =
        ap (λ (k : ℕ). part area k (inked_in area n at bs m)) (sym wide)
        ∙ part-over area (inked at bs (part area n m)) m (omega (arith, wide))

    -- its bytes
    pub octets-area : Bytes bs → octets (part area n (inked_in area n at bs m)) ≡ over at bs (octets (part area n m))
    octets-area f = ap octets area-inked ∙ octets-inked at bs (part area n m) f

    -- an area that ends before it, and one that begins after it
    pub area-before : (o k : ℕ) → o + k ≤ area → part o k (inked_in area n at bs m) ≡ part o k m
    area-before o k l = part-before o k area (inked at bs (part area n m)) m l

    pub area-after : (o k : ℕ) → area + n ≤ o → part o k (inked_in area n at bs m) ≡ part o k m
    area-after o k l = part-after o k area (inked at bs (part area n m)) m (omega (arith, wide))

    -- words written elsewhere may be written before or after
    pub inked-in-over : (b : ℕ) (ys : List ℕ) → area + n ≤ b → over b ys (inked_in area n at bs m) ≡ inked_in area n at bs (over b ys m)
    inked-in-over b ys l =
        over-comm area (inked at bs (part area n m)) b ys m (omega (arith, wide))
        ∙ ap (λ (x : List ℕ). over area (inked at bs x) (over b ys m)) (sym (part-before area n b ys m l))

    pub over-inked-in : (b : ℕ) (ys : List ℕ) → b + length ys ≤ area → over b ys (inked_in area n at bs m) ≡ inked_in area n at bs (over b ys m)
    over-inked-in b ys l =
        sym (over-comm b ys area (inked at bs (part area n m)) m l)
        ∙ ap (λ (x : List ℕ). over area (inked at bs x) (over b ys m)) (sym (part-after area n b ys m l))

    -- one list of bytes after another
    pub inked-in-append : (ys : List ℕ) → Bytes bs → inked_in area n (at + length bs) ys (inked_in area n at bs m) ≡ inked_in area n at (bs ++ ys) m
    inked-in-append ys f =
        let x = inked at bs (part area n m) in
        let y = inked (at + length bs) ys x in
        ap (λ (l : List ℕ). over area (inked (at + length bs) ys l) (over area x m)) area-inked
        ∙ over-again area x y m (sym (length-inked (at + length bs) ys x))
        ∙ ap (λ (l : List ℕ). over area l m) (sym (inked-append at bs ys (part area n m) f))

-- what a function finds that lends `&mut m[area..area + n]` to one that writes bytes
pub lent-inked : (area n at : ℕ) (bs m ys : List ℕ) → area + n ≤ length m → ys ≡ inked at bs (part area (area + n - area) m)
    → take area m ++ (ys ++ drop (area + n - area) (drop area m)) ≡ inked_in area n at bs m
lent-inked area n at bs m ys h e =
    let k : area + n - area ≡ n = omega arith in
    let q : ys ≡ inked at bs (part area n m) = e ∙ ap (λ (i : ℕ). inked at bs (part area i m)) k in
    put_back area n ys m h (ap length q ∙ wide area n at bs m h) ∙ ap (λ (x : List ℕ). over area x m) q

-- ---- an area by its place among all bytes of the memory

module _ (area n at : ℕ) (bs m : List ℕ) (f : Bytes bs) (g : Words m) (h : area + n ≤ length m) (l : at + length bs ≤ 8 * n) where
  -- so bytes may be written into the whole memory as well
  pub inked-area : inked (8 * area + at) bs m ≡ inked_in area n at bs m
  inked-area =
      let p = part area n m in
      sym (inked-is (8 * area + at) bs m (inked_in area n at bs m)
      (each_over (λ w. w < WORD) area (inked at bs p) m (words-inked at bs p f) g)
      (length_over area (inked at bs p) m)
      (octets-over area (inked at bs p) m
      ∙ ap (λ (x : List ℕ). over (8 * area) x (octets m)) (octets-inked at bs p f ∙ ap (over at bs) (octets-part area n m))
      ∙ over-within (8 * area) at (8 * n) bs (octets m) l))
