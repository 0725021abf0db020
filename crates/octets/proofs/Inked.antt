-- Bytes written over those of words. Assumes nothing.
use mathlib.Core.Path.{◌≡◌, refl, sym, ap, ap₂, ◌∙◌}
use mathlib.Core.List.{List, [], ◌∷◌, ◌++◌}
use Prim.Native.Nat.{ℕ, ◌+◌, ◌-◌, ◌*◌, ◌/◌, ◌%◌, ◌≤◌, ◌<◌}
use native.Mathlib.Nat.{zero-add}
use native.Mathlib.Omega.{arith}
use lib.ListN.{length, take, drop, get_or, set, length-set, length-drop}
use lib.Seq.{take-add, drop-drop, drop-cons, length-take-le, get_or-drop}
use Rattle.words.specs.Over.{over, part, moved}
use Rattle.plain.proofs.Each.{each_take, each-drop}
use Rattle.words.proofs.Each.{WORD, Words}
use Rattle.words.proofs.Over.{over-nil, over-one, over-append, over-past, over-comm, over-turn, part-over, part-after, length_over, each_over}
use Rattle.octets.specs.Octets.{bytes_of, octets, packed, inked}
use Rattle.octets.proofs.Bytes.{Bytes, length-octets, bytes-octets, octets-set, octets-over, length-packed, packed-octets, octets-packed, words-packed}

module _ (at : ℕ) (bs ws : List ℕ) where
  pub length-inked : length (inked at bs ws) ≡ length ws
  unfolding inked
  length-inked = length-packed (length ws) (over at bs (octets ws))

  -- words that have these bytes are these words
  pub inked-is : (vs : List ℕ) → Words vs → length vs ≡ length ws → octets vs ≡ over at bs (octets ws) → vs ≡ inked at bs ws
  unfolding inked
  inked-is vs f l e = sym (packed-octets vs f) ∙ ap₂ packed l e

  module _ (f : Bytes bs) where
    written : Bytes (over at bs (octets ws))
    written = each_over (λ b. b < 256) at bs (octets ws) f (bytes-octets ws)

    pub octets-inked : octets (inked at bs ws) ≡ over at bs (octets ws)
    unfolding inked
    octets-inked = octets-packed (length ws) (over at bs (octets ws)) written (length_over at bs (octets ws) ∙ length-octets ws)

    pub words-inked : Words (inked at bs ws)
    unfolding inked
    words-inked = words-packed (length ws) (over at bs (octets ws)) written

-- nothing, and past the end
pub inked-nil : (at : ℕ) (ws : List ℕ) → Words ws → inked at [] ws ≡ ws
inked-nil at ws f = sym (inked-is at [] ws ws f refl (sym (over-nil at (octets ws))))

pub inked-past : (at : ℕ) (bs ws : List ℕ) → Words ws → 8 * length ws ≤ at → inked at bs ws ≡ ws
inked-past at bs ws f h = sym (inked-is at bs ws ws f refl (sym (over-past at bs (octets ws) (omega (arith, length-octets ws)))))

-- a word is stored that differs in one byte
pub inked-set : (ws : List ℕ) (i v b : ℕ) → Words ws → v < WORD → i / 8 < length ws → bytes_of v ≡ set (bytes_of (get_or ws (i / 8) 0)) (i % 8) b
    → set ws (i / 8) v ≡ inked i (b ∷ []) ws
inked-set ws i v b f g h e =
    let q : 8 * (i / 8) + i % 8 ≡ i = omega arith in
    inked-is i (b ∷ []) ws (set ws (i / 8) v) (rw (over-one (i / 8) v ws) (each_over (λ w. w < WORD) (i / 8) (v ∷ []) ws (g, tt) f)) (length-set ws (i / 8) v)
    (octets-set ws (i / 8) (i % 8) v b h (omega arith) e ∙ ap (λ (j : ℕ). set (octets ws) j b) q ∙ over-one i b (octets ws))

-- one list after another
pub inked-append : (at : ℕ) (xs ys ws : List ℕ) → Bytes xs → inked at (xs ++ ys) ws ≡ inked (at + length xs) ys (inked at xs ws)
unfolding inked
inked-append at xs ys ws f =
    ap₂ packed (sym (length-inked at xs ws)) (over-append at xs ys (octets ws) ∙ ap (over (at + length xs) ys) (sym (octets-inked at xs ws f)))

-- two writings that do not meet
pub inked-comm : (a : ℕ) (xs : List ℕ) (b : ℕ) (ys ws : List ℕ) → Bytes xs → Bytes ys → a + length xs ≤ b → inked b ys (inked a xs ws) ≡ inked a xs (inked b ys ws)
unfolding inked
inked-comm a xs b ys ws f g h =
    ap₂ packed (length-inked a xs ws ∙ sym (length-inked b ys ws))
    (ap (over b ys) (octets-inked a xs ws f) ∙ over-comm a xs b ys (octets ws) h ∙ sym (ap (over a xs) (octets-inked b ys ws g)))

-- what is written is read back, and bytes moved down are `moved` on the bytes
pub read_back : (at : ℕ) (bs ws : List ℕ) → Bytes bs → at + length bs ≤ 8 * length ws → part at (length bs) (octets (inked at bs ws)) ≡ bs
read_back at bs ws f h = ap (part at (length bs)) (octets-inked at bs ws f) ∙ part-over at bs (octets ws) (omega (arith, length-octets ws))

pub octets-moved : (to from n : ℕ) (ws : List ℕ) → octets (inked to (part from n (octets ws)) ws) ≡ moved to from n (octets ws)
octets-moved to from n ws = octets-inked to (part from n (octets ws)) ws (each_take (λ b. b < 256) n (drop from (octets ws)) (each-drop (λ b. b < 256) from (octets ws) (bytes-octets ws)))

-- ---- moving down: the bytes to read are not yet written over

module _ (to from n j k : ℕ) (ws : List ℕ) (d : to ≤ from) (l : from + n ≤ 8 * length ws) (h : j + k ≤ n) where
  pub shift-turn : inked (to + j) (part (from + j) k (octets (inked to (part from j (octets ws)) ws))) (inked to (part from j (octets ws)) ws)
      ≡ inked to (part from (j + k) (octets ws)) ws
  shift-turn =
      let bs = octets ws in
      let x = part from j bs in
      let m : length bs ≡ 8 * length ws = length-octets ws in
      let p : length x ≡ j = length-take-le j (drop from bs) (omega (arith, length-drop from bs)) in
      let F = each_take (λ b. b < 256) j (drop from bs) (each-drop (λ b. b < 256) from bs (bytes-octets ws)) in
      let q : part (from + j) k (octets (inked to x ws)) ≡ part (from + j) k bs = ap (part (from + j) k) (octets-inked to x ws F) ∙ part-after (from + j) k to x bs (omega arith) in
      let r : x ++ part (from + j) k bs ≡ part from (j + k) bs = ap (λ (z : List ℕ). x ++ take k z) (sym (drop-drop j from bs)) ∙ sym (take-add j k (drop from bs)) in
      ap₂ (λ (i : ℕ) (z : List ℕ). inked (to + i) z (inked to x ws)) (sym p) q ∙ sym (inked-append to x (part (from + j) k bs) ws F) ∙ ap (λ (z : List ℕ). inked to z ws) r

-- one byte that is there
pub part-one : (ws : List ℕ) (i b : ℕ) → i < 8 * length ws → b ≡ get_or (octets ws) i 0 → b ∷ [] ≡ part i 1 (octets ws)
part-one ws i b h e = sym (ap (take 1) (drop-cons (octets ws) i 0 (omega (arith, length-octets ws))) ∙ ap (λ (x : ℕ). x ∷ []) (sym e))

-- a word is stored where it fits
pub inked-word : (ws : List ℕ) (at v : ℕ) → Words ws → v < WORD → at % 8 ≡ 0 → set ws (at / 8) v ≡ inked at (bytes_of v) ws
unfolding octets
inked-word ws at v f g e =
    let q : 8 * (at / 8) ≡ at = omega arith in
    inked-is at (bytes_of v) ws (set ws (at / 8) v) (rw (over-one (at / 8) v ws) (each_over (λ w. w < WORD) (at / 8) (v ∷ []) ws (g, tt) f)) (length-set ws (at / 8) v)
    (ap octets (over-one (at / 8) v ws) ∙ octets-over (at / 8) (v ∷ []) ws ∙ ap (λ (i : ℕ). over i (bytes_of v) (octets ws)) q)

-- out to a buffer
pub copy-turn : (from n j : ℕ) (ws out : List ℕ) → from + n ≤ 8 * length ws → j < n → (b : ℕ) → b ≡ get_or (octets ws) (from + j) 0
    → set (over 0 (part from j (octets ws)) out) j b ≡ over 0 (part from (j + 1) (octets ws)) out
copy-turn from n j ws out k h b e =
    let bs = octets ws in
    let l : length (drop from bs) ≡ length bs - from = length-drop from bs in
    let m : length bs ≡ 8 * length ws = length-octets ws in
    ap₂ (λ (i x : ℕ). set (over 0 (part from j bs) out) i x) (sym (zero-add j)) (e ∙ sym (get_or-drop from bs j 0))
    ∙ over-turn 0 (drop from bs) out j 0 (omega arith)
