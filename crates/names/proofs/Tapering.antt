-- A word that holds name bytes and zeros after them, and words one after the other that do. Assumes nothing.
use mathlib.Core.Path.{◌≡◌, refl, sym, ap, ◌∙◌}
use mathlib.Core.Bool.{Bool, true, false, ◌&&◌}
use mathlib.Core.List.{List, [], ◌∷◌, ◌++◌}
use Prim.Native.Nat.{ℕ, suc, ◌*◌, ◌/◌, ◌%◌, ◌<◌}
use native.Mathlib.Nat.{div-lt_iff_lt-mul, mod-eq_of_lt}
use native.Mathlib.Omega.{arith}
use borrow.Author.Tests.{eqb-true, eqb-false, ne_eqb, le-leb}
use lib.Dec.{T, eqb, leb, ltb, lit<}
use lib.ListN.{length, get_or}
use Rattle.std.specs.Prelude.{if◌then◌else◌}
use Rattle.plain.specs.Runs.{run, skip}
use Rattle.value.specs.Classes.{name_byte}
use Rattle.words.specs.Halves.{all}
use Rattle.plain.proofs.Tests.{true-false, is_false, first_then}
use Rattle.plain.proofs.Each.{Each}
use Rattle.words.proofs.Each.{WORD, Words, all-each}
use Rattle.octets.specs.Octets.{bytes_of, octets}
use Rattle.names.specs.Names.{unpacked, holds_name}

-- ---- bytes that are all zero, and bytes that are zero after a run

abbrev pub zeros : List ℕ → Bool
zeros bs = all (eqb 0) bs

abbrev pub ends : List ℕ → Bool
ends bs = zeros (skip name_byte bs)

pub zeros-append : (xs ys : List ℕ) → zeros xs ≡ true → zeros (xs ++ ys) ≡ zeros ys
unfolding all
zeros-append [] ys e = refl
zeros-append (x ∷ xs) ys e = let b = first_then (eqb 0 x) (zeros xs) e in rw b.0 (zeros-append xs ys b.1)

zeros-not : (xs ys : List ℕ) → zeros xs ≡ false → zeros (xs ++ ys) ≡ false
unfolding all
zeros-not [] ys e = true-false e
zeros-not (x ∷ xs) ys e = by (eqb 0 x) e (λ f. zeros-not xs ys f)
  where
    by : (t : Bool) → (if t then zeros xs else false) ≡ false → (zeros xs ≡ false → zeros (xs ++ ys) ≡ false) → (if t then zeros (xs ++ ys) else false) ≡ false
    by true f r = r f
    by false f r = refl

zeros-last : (xs : List ℕ) (y : ℕ) → zeros (xs ++ (y ∷ [])) ≡ true → y ≡ 0
unfolding all
zeros-last [] y e = sym (eqb-true 0 y (first_then (eqb 0 y) true e).0)
zeros-last (x ∷ xs) y e = zeros-last xs y (first_then (eqb 0 x) (zeros (xs ++ (y ∷ []))) e).1

zeros-front : (xs : List ℕ) (y : ℕ) → zeros (xs ++ (y ∷ [])) ≡ true → zeros xs ≡ true
unfolding all
zeros-front [] y e = refl
zeros-front (x ∷ xs) y e = let b = first_then (eqb 0 x) (zeros (xs ++ (y ∷ []))) e in rw b.0 (zeros-front xs y b.1)

zeros-and-zero : (xs : List ℕ) → zeros (xs ++ (0 ∷ [])) ≡ zeros xs
unfolding all
zeros-and-zero [] = refl
zeros-and-zero (x ∷ xs) = ap (λ (t : Bool). if eqb 0 x then t else false) (zeros-and-zero xs)

-- a zero more at the end changes neither
ends-and-zero : (xs : List ℕ) → ends (xs ++ (0 ∷ [])) ≡ ends xs
unfolding all
ends-and-zero [] = refl
ends-and-zero (x ∷ xs) = by (name_byte x) (ends-and-zero xs)
  where
    by : (t : Bool) → ends (xs ++ (0 ∷ [])) ≡ ends xs → zeros (if t then skip name_byte (xs ++ (0 ∷ [])) else (x ∷ (xs ++ (0 ∷ [])))) ≡ zeros (if t then skip name_byte xs else (x ∷ xs))
    by true e = e
    by false e = zeros-and-zero (x ∷ xs)

run-and-zero : (xs : List ℕ) → run name_byte (xs ++ (0 ∷ [])) ≡ run name_byte xs
run-and-zero [] = refl
run-and-zero (x ∷ xs) = ap (λ (r : List ℕ). if name_byte x then x ∷ r else []) (run-and-zero xs)

-- a list that ends in a byte other than zero holds name bytes only: the run goes on
ends_open : (xs : List ℕ) (y : ℕ) (ys : List ℕ) → ends (xs ++ (y ∷ [])) ≡ true → (y ≡ 0 → ⊥) → skip name_byte (xs ++ (y ∷ ys)) ≡ skip name_byte ys
unfolding all
ends_open [] y ys e n = by (name_byte y) e
  where
    by : (t : Bool) → zeros (if t then [] else (y ∷ [])) ≡ true → (if t then skip name_byte ys else (y ∷ ys)) ≡ skip name_byte ys
    by true f = refl
    by false f = absurd (n (zeros-last [] y f))
ends_open (x ∷ xs) y ys e n = by (name_byte x) e (λ f. ends_open xs y ys f n)
  where
    by : (t : Bool) → zeros (if t then skip name_byte (xs ++ (y ∷ [])) else (x ∷ (xs ++ (y ∷ [])))) ≡ true → (ends (xs ++ (y ∷ [])) ≡ true → skip name_byte (xs ++ (y ∷ ys)) ≡ skip name_byte ys)
        → (if t then skip name_byte (xs ++ (y ∷ ys)) else (x ∷ (xs ++ (y ∷ ys)))) ≡ skip name_byte ys
    by true f r = r f
    by false f r = absurd (n (zeros-last (x ∷ xs) y f))

-- one that ends in zero: what follows must be zero
ends-closed : (xs : List ℕ) (ys : List ℕ) → ends (xs ++ (0 ∷ [])) ≡ true → ends (xs ++ (0 ∷ ys)) ≡ zeros ys
unfolding all
ends-closed [] ys e = refl
ends-closed (x ∷ xs) ys e = by (name_byte x) e (λ f. ends-closed xs ys f)
  where
    by : (t : Bool) → zeros (if t then skip name_byte (xs ++ (0 ∷ [])) else (x ∷ (xs ++ (0 ∷ [])))) ≡ true → (ends (xs ++ (0 ∷ [])) ≡ true → ends (xs ++ (0 ∷ ys)) ≡ zeros ys)
        → zeros (if t then skip name_byte (xs ++ (0 ∷ ys)) else (x ∷ (xs ++ (0 ∷ ys)))) ≡ zeros ys
    by true f r = r f
    by false f r = zeros-append (x ∷ xs) (0 ∷ ys) (zeros-front (x ∷ xs) 0 f)

-- one that does not: nothing that follows helps
ends-not : (xs ys : List ℕ) → ends xs ≡ false → ends (xs ++ ys) ≡ false
unfolding all
ends-not [] ys e = true-false e
ends-not (x ∷ xs) ys e = by (name_byte x) e (λ f. ends-not xs ys f)
  where
    by : (t : Bool) → zeros (if t then skip name_byte xs else (x ∷ xs)) ≡ false → (ends xs ≡ false → ends (xs ++ ys) ≡ false)
        → zeros (if t then skip name_byte (xs ++ ys) else (x ∷ (xs ++ ys))) ≡ false
    by true f r = r f
    by false f r = zeros-not (x ∷ xs) ys f

-- ---- a word, its highest byte and the word without it

abbrev pub HIGHEST : ℕ
HIGHEST = 72057594037927936

abbrev lower_bytes : ℕ → List ℕ
lower_bytes w =
    w / 281474976710656 % 256 ∷ w / 1099511627776 % 256 ∷ w / 4294967296 % 256 ∷ w / 16777216 % 256
    ∷ w / 65536 % 256 ∷ w / 256 % 256 ∷ w % 256 ∷ []

-- a word whose byte at this place is zero, and with it all above, is below the place
zero-byte : (place w : ℕ) → 0 < place → w < 256 * place → 0 ≡ w / place % 256 → w < place
zero-byte place w p h e =
    let q : w / place < 256 = (div-lt_iff_lt-mul p).1 h in
    let z : w / place < 1 = omega (arith, e ∙ mod-eq_of_lt q) in
    omega (arith, (div-lt_iff_lt-mul p).0 z)

zero_word : (w : ℕ) → w < WORD → Each (λ b. eqb 0 b ≡ true) (bytes_of w) → w ≡ 0
zero_word w h f =
    last (at 256 tt (at 65536 tt (at 16777216 tt (at 4294967296 tt (at 1099511627776 tt (at 281474976710656 tt (at 72057594037927936 tt h
    f.0) f.1.0) f.1.1.0) f.1.1.1.0) f.1.1.1.1.0) f.1.1.1.1.1.0) f.1.1.1.1.1.1.0) f.1.1.1.1.1.1.1.0
  where
    at : (place : ℕ) → T (ltb 0 place) → w < 256 * place → eqb 0 (w / place % 256) ≡ true → w < place
    at place p k e = zero-byte place w (lit< p) k (eqb-true 0 (w / place % 256) e)

    last : w < 256 → eqb 0 (w % 256) ≡ true → w ≡ 0
    last k e = sym (eqb-true 0 (w % 256) e ∙ mod-eq_of_lt k)

module _ (w : ℕ) (h : w < WORD) where
  highest : bytes_of w ≡ w / HIGHEST ∷ lower_bytes w
  highest = let e : w / HIGHEST % 256 ≡ w / HIGHEST = omega arith in ap (λ (b : ℕ). b ∷ lower_bytes w) e

  shifted : bytes_of (w % HIGHEST * 256) ≡ lower_bytes w ++ (0 ∷ [])
  shifted = λ i. a i ∷ b i ∷ c i ∷ d i ∷ e i ∷ f i ∷ g i ∷ z i ∷ []
    where
      a : w % HIGHEST * 256 / 72057594037927936 % 256 ≡ w / 281474976710656 % 256
      a = omega arith

      b : w % HIGHEST * 256 / 281474976710656 % 256 ≡ w / 1099511627776 % 256
      b = omega arith

      c : w % HIGHEST * 256 / 1099511627776 % 256 ≡ w / 4294967296 % 256
      c = omega arith

      d : w % HIGHEST * 256 / 4294967296 % 256 ≡ w / 16777216 % 256
      d = omega arith

      e : w % HIGHEST * 256 / 16777216 % 256 ≡ w / 65536 % 256
      e = omega arith

      f : w % HIGHEST * 256 / 65536 % 256 ≡ w / 256 % 256
      f = omega arith

      g : w % HIGHEST * 256 / 256 % 256 ≡ w % 256
      g = omega arith

      z : w % HIGHEST * 256 % 256 ≡ 0
      z = omega arith

  -- the highest byte is a name byte: it may go
  module _ (n : name_byte (w / HIGHEST) ≡ true) where
    pub ends_next : ends (bytes_of (w % HIGHEST * 256)) ≡ ends (bytes_of w)
    ends_next = ap ends shifted ∙ ends-and-zero (lower_bytes w) ∙ sym (ap ends highest ∙ rw n)

    pub run-next : length (run name_byte (bytes_of w)) ≡ suc (length (run name_byte (bytes_of (w % HIGHEST * 256))))
    run-next = ap (λ (l : List ℕ). length (run name_byte l)) highest ∙ rw n (ap (λ (l : List ℕ). suc (length l)) (sym (ap (run name_byte) shifted ∙ run-and-zero (lower_bytes w))))

  -- the bytes are zero exactly when the word is
  pub zeros-word : zeros (bytes_of w) ≡ eqb 0 w
  unfolding all
  zeros-word = by (eqb 0 w) refl
    where
      by : (t : Bool) → eqb 0 w ≡ t → zeros (bytes_of w) ≡ t
      by true e = let z : w ≡ 0 = sym (eqb-true 0 w e) in rw z
      by false e = is_false (zeros (bytes_of w)) (λ f. eqb-false 0 w e (sym (zero_word w h (all-each (eqb 0) (bytes_of w) f))))

  pub ends-here : name_byte (w / HIGHEST) ≡ false → ends (bytes_of w) ≡ eqb 0 w
  ends-here n = ap ends highest ∙ rw n (sym (ap zeros highest)) ∙ zeros-word

-- ---- words one after the other

-- the first byte is a name byte, or the name is empty
pub first_byte : (w : ℕ) (ws : List ℕ) → w < WORD → leb 1 (length (unpacked (w ∷ ws))) ≡ name_byte (w / HIGHEST)
unfolding unpacked octets
first_byte w ws h = ap (λ (l : List ℕ). leb 1 (length (run name_byte (l ++ octets ws)))) (highest w h) ∙ by (name_byte (w / HIGHEST))
  where
    by : (t : Bool) → leb 1 (length (if t then w / HIGHEST ∷ run name_byte (lower_bytes w ++ octets ws) else [])) ≡ t
    by true = le-leb 1 (suc (length (run name_byte (lower_bytes w ++ octets ws)))) (omega arith)
    by false = refl

module _ (w : ℕ) (ws : List ℕ) where
  upper_bytes : List ℕ
  upper_bytes =
      w / 72057594037927936 % 256 ∷ w / 281474976710656 % 256 ∷ w / 1099511627776 % 256 ∷ w / 4294967296 % 256 ∷ w / 16777216 % 256
      ∷ w / 65536 % 256 ∷ w / 256 % 256 ∷ []

  pub ends_through : ends (bytes_of w) ≡ true → (w % 256 ≡ 0 → ⊥) → ends (octets (w ∷ ws)) ≡ ends (octets ws)
  unfolding octets upper_bytes
  ends_through e n = ap zeros (ends_open upper_bytes (w % 256) (octets ws) e n)

  pub ends_last : ends (bytes_of w) ≡ true → w % 256 ≡ 0 → ends (octets (w ∷ ws)) ≡ zeros (octets ws)
  unfolding octets upper_bytes
  ends_last e z =
      ap (λ (b : ℕ). ends (upper_bytes ++ (b ∷ octets ws))) z
      ∙ ends-closed upper_bytes (octets ws) (sym (ap (λ (b : ℕ). ends (upper_bytes ++ (b ∷ []))) z) ∙ e)

  pub ends-never : ends (bytes_of w) ≡ false → ends (octets (w ∷ ws)) ≡ false
  unfolding octets
  ends-never e = ends-not (bytes_of w) (octets ws) e

-- the bytes of some words are zero exactly when the words are
pub zeros-words : (ws : List ℕ) → Words ws → zeros (octets ws) ≡ zeros ws
unfolding octets all
zeros-words [] f = refl
zeros-words (w ∷ ws) f = by (eqb 0 w) (zeros-word w f.0) (zeros-words ws f.1)
  where
    by : (t : Bool) → zeros (bytes_of w) ≡ t → zeros (octets ws) ≡ zeros ws → zeros (bytes_of w ++ octets ws) ≡ (if t then zeros ws else false)
    by true e r = zeros-append (bytes_of w) (octets ws) e ∙ r
    by false e r = zeros-not (bytes_of w) (octets ws) e

-- ---- a legal name, and zeros after it

pub holds-none : (ws : List ℕ) → length ws ≡ 0 → holds_name ws ≡ false
unfolding holds_name unpacked octets
holds-none [] e = refl
holds-none (w ∷ ws) e = absurd (omega arith)

holds-first : (w : ℕ) (ws : List ℕ) → w < WORD → holds_name (w ∷ ws) ≡ name_byte (w / HIGHEST) && ends (octets (w ∷ ws))
unfolding holds_name
holds-first w ws h = ap (λ (t : Bool). t && ends (octets (w ∷ ws))) (first_byte w ws h)

-- a first word that is zero has no name byte, and one that is not has one where the words taper
pub holds-zero : (ws : List ℕ) → get_or ws 0 0 ≡ 0 → holds_name ws ≡ false
holds-zero [] e = holds-none [] refl
holds-zero (w ∷ ws) e = holds-first w ws (omega arith) ∙ rw e

pub holds-some : (ws : List ℕ) → get_or ws 0 0 < WORD → (get_or ws 0 0 ≡ 0 → ⊥) → holds_name ws ≡ ends (octets ws)
holds-some [] h n = absurd (n refl)
holds-some (w ∷ ws) h n = holds-first w ws h ∙ by (name_byte (w / HIGHEST)) refl
  where
    by : (t : Bool) → name_byte (w / HIGHEST) ≡ t → (t && ends (octets (w ∷ ws))) ≡ ends (octets (w ∷ ws))
    by true e = refl
    by false e = sym (ends-never w ws (ends-here w h e ∙ ne_eqb 0 w (λ z. n (sym z))))
