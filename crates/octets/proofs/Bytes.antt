-- The bytes of words: how many, each below 256, read and changed by place; packing and unpacking undo each other. Assumes nothing.
use mathlib.Core.Path.{◌≡◌, refl, sym, ap, ap₂, ◌∙◌}
use mathlib.Core.List.{List, [], ◌∷◌, ◌++◌}
use Prim.Native.Nat.{ℕ, zero, suc, ◌+◌, ◌*◌, ◌/◌, ◌%◌, ◌≤◌, ◌<◌}
use native.Mathlib.Nat.{suc-add, zero-add, le_of_suc-le-suc}
use native.Mathlib.Omega.{arith}
use lib.Dec.{lit<}
use lib.ListN.{length, take, drop, get_or, set, length-append, length-drop, take-append-drop, get_or-append, get_or-eq_default}
use lib.Seq.{take-nil, drop-nil, take-append-add, drop-append-add, get_or-append-add, set-append_left}
use Rattle.words.specs.Over.{over, part}
use Rattle.plain.proofs.Each.{Each, each_append, each-drop}
use Rattle.words.proofs.Over.{over-behind}
use Rattle.words.proofs.Each.{WORD, Words}
use Rattle.octets.specs.Octets.{bytes_of, octets, word_of, packed}
use Rattle.octets.proofs.Eight.{eight, bytes_word, word_below, word_bytes}

-- every number of a list is a byte, as a slice of bytes knows of itself
abbrev pub Bytes : List ℕ → Type 0
Bytes bs = Each (λ b. b < 256) bs

pub bytes-from : (bs : List ℕ) → ((i : ℕ) → get_or bs i 0 < 256) → Bytes bs
bytes-from [] f = tt
bytes-from (b ∷ bs) f = (f 0, bytes-from bs (λ i. f (suc i)))

pub byte-below : (bs : List ℕ) → Bytes bs → (i : ℕ) → get_or bs i 0 < 256
byte-below [] f i = lit< tt
byte-below (b ∷ bs) f zero = f.0
byte-below (b ∷ bs) f (suc i) = byte-below bs f.1 i

-- ---- how many, and how large

pub length-octets : (ws : List ℕ) → length (octets ws) ≡ 8 * length ws
unfolding octets
length-octets [] = refl
length-octets (w ∷ ws) = omega (arith, length-append (bytes_of w) (octets ws), length-octets ws)

below : (w : ℕ) → w % 256 < 256
below w = omega arith

bytes-bytes : (w : ℕ) → Bytes (bytes_of w)
bytes-bytes w = (below _, (below _, (below _, (below _, (below _, (below _, (below _, (below _, tt))))))))

pub bytes-octets : (ws : List ℕ) → Bytes (octets ws)
unfolding octets
bytes-octets [] = tt
bytes-octets (w ∷ ws) = each_append (λ b. b < 256) (bytes_of w) (octets ws) (bytes-bytes w) (bytes-octets ws)

-- ---- by place

pub octet-at : (ws : List ℕ) (k r : ℕ) → r < 8 → get_or (octets ws) (8 * k + r) 0 ≡ get_or (bytes_of (get_or ws k 0)) r 0
unfolding octets
octet-at [] k r h = eight (λ r. 0 ≡ get_or (bytes_of 0) r 0) refl refl refl refl refl refl refl refl r h
octet-at (w ∷ ws) zero r h = ap (λ (i : ℕ). get_or (bytes_of w ++ octets ws) i 0) (zero-add r) ∙ get_or-append (bytes_of w) (octets ws) 0 r h
octet-at (w ∷ ws) (suc k) r h =
    let e : 8 * suc k + r ≡ 8 + (8 * k + r) = omega arith in
    ap (λ (i : ℕ). get_or (bytes_of w ++ octets ws) i 0) e ∙ get_or-append-add (bytes_of w) (octets ws) (8 * k + r) 0 ∙ octet-at ws k r h

pub octet : (ws : List ℕ) (i : ℕ) → get_or (octets ws) i 0 ≡ get_or (bytes_of (get_or ws (i / 8) 0)) (i % 8) 0
octet ws i =
    let e : i ≡ 8 * (i / 8) + i % 8 = omega arith in
    ap (λ (j : ℕ). get_or (octets ws) j 0) e ∙ octet-at ws (i / 8) (i % 8) (omega arith)

pub octet-past : (ws : List ℕ) (i : ℕ) → length ws ≤ i / 8 → 0 ≡ get_or (octets ws) i 0
octet-past ws i h = sym (get_or-eq_default (octets ws) 0 (omega (arith, length-octets ws)))

set_append_right : {A : Type 0} (xs ys : List A) (n : ℕ) (v : A) → set (xs ++ ys) (length xs + n) v ≡ xs ++ set ys n v
set_append_right [] ys n v = ap (λ (i : ℕ). set ys i v) (zero-add n)
set_append_right {A} (x ∷ xs) ys n v = ap (λ (i : ℕ). set (x ∷ (xs ++ ys)) i v) (suc-add (length xs) n) ∙ ap (λ (l : List A). x ∷ l) (set_append_right xs ys n v)

-- a word is stored that differs in one byte
pub octets-set : (ws : List ℕ) (k r v b : ℕ) → k < length ws → r < 8 → bytes_of v ≡ set (bytes_of (get_or ws k 0)) r b
    → octets (set ws k v) ≡ set (octets ws) (8 * k + r) b
unfolding octets
octets-set [] k r v b h l e = absurd (omega arith)
octets-set (w ∷ ws) zero r v b h l e =
    ap (λ (x : List ℕ). x ++ octets ws) e
    ∙ sym (set-append_left (bytes_of w) (octets ws) r b l)
    ∙ ap (λ (i : ℕ). set (bytes_of w ++ octets ws) i b) (sym (zero-add r))
octets-set (w ∷ ws) (suc k) r v b h l e =
    let q : 8 + (8 * k + r) ≡ 8 * suc k + r = omega arith in
    ap (λ (x : List ℕ). bytes_of w ++ x) (octets-set ws k r v b (le_of_suc-le-suc h) l e)
    ∙ sym (set_append_right (bytes_of w) (octets ws) (8 * k + r) b)
    ∙ ap (λ (i : ℕ). set (bytes_of w ++ octets ws) i b) q

-- ---- of words written over, and of a part

pub octets-over : (at : ℕ) (xs ws : List ℕ) → octets (over at xs ws) ≡ over (8 * at) (octets xs) (octets ws)
unfolding octets over
octets-over at xs [] = refl
octets-over zero [] (w ∷ ws) = refl
octets-over zero (x ∷ xs) (w ∷ ws) = ap (λ (l : List ℕ). bytes_of x ++ l) (octets-over zero xs ws)
octets-over (suc at) xs (w ∷ ws) =
    let e : 8 + 8 * at ≡ 8 * suc at = omega arith in
    ap (λ (l : List ℕ). bytes_of w ++ l) (octets-over at xs ws)
    ∙ sym (over-behind (bytes_of w) (octets xs) (octets ws) (8 * at))
    ∙ ap (λ (i : ℕ). over i (octets xs) (bytes_of w ++ octets ws)) e

pub octets-drop : (o : ℕ) (ws : List ℕ) → octets (drop o ws) ≡ drop (8 * o) (octets ws)
unfolding octets
octets-drop zero ws = refl
octets-drop (suc o) [] = sym (drop-nil (8 * suc o))
octets-drop (suc o) (w ∷ ws) =
    let e : 8 + 8 * o ≡ 8 * suc o = omega arith in
    octets-drop o ws ∙ sym (drop-append-add (bytes_of w) (octets ws) (8 * o)) ∙ ap (λ (i : ℕ). drop i (bytes_of w ++ octets ws)) e

pub octets-take : (n : ℕ) (ws : List ℕ) → octets (take n ws) ≡ take (8 * n) (octets ws)
unfolding octets
octets-take zero ws = refl
octets-take (suc n) [] = sym (take-nil (8 * suc n))
octets-take (suc n) (w ∷ ws) =
    let e : 8 + 8 * n ≡ 8 * suc n = omega arith in
    ap (λ (l : List ℕ). bytes_of w ++ l) (octets-take n ws) ∙ sym (take-append-add (bytes_of w) (octets ws) (8 * n)) ∙ ap (λ (i : ℕ). take i (bytes_of w ++ octets ws)) e

pub octets-part : (o n : ℕ) (ws : List ℕ) → octets (part o n ws) ≡ part (8 * o) (8 * n) (octets ws)
octets-part o n ws = octets-take n (drop o ws) ∙ ap (take (8 * n)) (octets-drop o ws)

-- ---- packing and unpacking

pub length-packed : (n : ℕ) (bs : List ℕ) → length (packed n bs) ≡ n
unfolding packed
length-packed zero bs = refl
length-packed (suc n) bs = ap suc (length-packed n (drop 8 bs))

pub packed-octets : (ws : List ℕ) → Words ws → packed (length ws) (octets ws) ≡ ws
unfolding packed octets
packed-octets [] f = refl
packed-octets (w ∷ ws) f = ap₂ (λ (x : ℕ) (l : List ℕ). x ∷ l) (word_bytes w f.0) (packed-octets ws f.1)

pub octets-same : (ws vs : List ℕ) → Words ws → Words vs → octets ws ≡ octets vs → ws ≡ vs
octets-same ws vs f g e =
    let l : length ws ≡ length vs = omega (arith, length-octets ws, length-octets vs, ap length e) in
    sym (packed-octets ws f) ∙ ap₂ packed l e ∙ packed-octets vs g

module _ (bs : List ℕ) (f : Bytes bs) where
  bytes-word-of : bytes_of (word_of bs) ≡ get_or bs 0 0 ∷ get_or bs 1 0 ∷ get_or bs 2 0 ∷ get_or bs 3 0 ∷ get_or bs 4 0 ∷ get_or bs 5 0 ∷ get_or bs 6 0 ∷ get_or bs 7 0 ∷ []
  bytes-word-of = bytes_word _ _ _ _ _ _ _ _ (byte-below bs f 0) (byte-below bs f 1) (byte-below bs f 2) (byte-below bs f 3) (byte-below bs f 4) (byte-below bs f 5) (byte-below bs f 6) (byte-below bs f 7)

  word-of-below : word_of bs < WORD
  word-of-below = word_below _ _ _ _ _ _ _ _ (byte-below bs f 0) (byte-below bs f 1) (byte-below bs f 2) (byte-below bs f 3) (byte-below bs f 4) (byte-below bs f 5) (byte-below bs f 6) (byte-below bs f 7)

pub words-packed : (n : ℕ) (bs : List ℕ) → Bytes bs → Words (packed n bs)
unfolding packed
words-packed zero bs f = tt
words-packed (suc n) bs f = (word-of-below bs f, words-packed n (drop 8 bs) (each-drop (λ b. b < 256) 8 bs f))

first-eight : (bs : List ℕ) → 8 ≤ length bs
    → get_or bs 0 0 ∷ get_or bs 1 0 ∷ get_or bs 2 0 ∷ get_or bs 3 0 ∷ get_or bs 4 0 ∷ get_or bs 5 0 ∷ get_or bs 6 0 ∷ get_or bs 7 0 ∷ [] ≡ take 8 bs
first-eight [] h = absurd (omega arith)
first-eight (a ∷ []) h = absurd (omega arith)
first-eight (a ∷ b ∷ []) h = absurd (omega arith)
first-eight (a ∷ b ∷ c ∷ []) h = absurd (omega arith)
first-eight (a ∷ b ∷ c ∷ d ∷ []) h = absurd (omega arith)
first-eight (a ∷ b ∷ c ∷ d ∷ e ∷ []) h = absurd (omega arith)
first-eight (a ∷ b ∷ c ∷ d ∷ e ∷ f ∷ []) h = absurd (omega arith)
first-eight (a ∷ b ∷ c ∷ d ∷ e ∷ f ∷ g ∷ []) h = absurd (omega arith)
first-eight (a ∷ b ∷ c ∷ d ∷ e ∷ f ∷ g ∷ i ∷ bs) h = refl

no_bytes : (bs : List ℕ) → length bs ≡ 0 → [] ≡ bs
no_bytes [] e = refl
no_bytes (b ∷ bs) e = absurd (omega arith)

pub octets-packed : (n : ℕ) (bs : List ℕ) → Bytes bs → length bs ≡ 8 * n → octets (packed n bs) ≡ bs
unfolding octets packed
octets-packed zero bs f h = no_bytes bs h
octets-packed (suc n) bs f h =
    ap₂ (λ (x y : List ℕ). x ++ y) (bytes-word-of bs f ∙ first-eight bs (omega arith)) (octets-packed n (drop 8 bs) (each-drop (λ b. b < 256) 8 bs f) (omega (arith, length-drop 8 bs)))
    ∙ take-append-drop 8 bs
