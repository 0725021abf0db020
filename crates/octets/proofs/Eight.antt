-- A word and its eight bytes: made of them, and with one of them changed. Assumes nothing.
use mathlib.Core.Path.{◌≡◌, ap, ◌∙◌}
use mathlib.Core.List.{List, [], ◌∷◌}
use Prim.Native.Nat.{ℕ, zero, suc, ◌+◌, ◌-◌, ◌*◌, ◌/◌, ◌%◌, ◌^◌, ◌<◌}
use native.Mathlib.Omega.{arith}
use lib.ListN.{get_or, set}
use Rattle.words.proofs.Each.{WORD}
use Rattle.octets.specs.Octets.{bytes_of}

abbrev pub word : (a b c d e f g h : ℕ) → ℕ
word a b c d e f g h =
    a * 72057594037927936 + b * 281474976710656 + c * 1099511627776 + d * 4294967296 + e * 16777216 + f * 65536 + g * 256 + h

-- ---- a word made of eight bytes has these bytes

module _ (a b c d e f g h : ℕ) (A : a < 256) (B : b < 256) (C : c < 256) (D : d < 256) (E : e < 256) (F : f < 256) (G : g < 256) (H : h < 256) where
  pub bytes_word : bytes_of (word a b c d e f g h) ≡ a ∷ b ∷ c ∷ d ∷ e ∷ f ∷ g ∷ h ∷ []
  bytes_word = λ i. p1 i ∷ p2 i ∷ p3 i ∷ p4 i ∷ p5 i ∷ p6 i ∷ p7 i ∷ p8 i ∷ []
    where
      p1 : word a b c d e f g h / 72057594037927936 % 256 ≡ a
      p1 = omega arith

      p2 : word a b c d e f g h / 281474976710656 % 256 ≡ b
      p2 = omega arith

      p3 : word a b c d e f g h / 1099511627776 % 256 ≡ c
      p3 = omega arith

      p4 : word a b c d e f g h / 4294967296 % 256 ≡ d
      p4 = omega arith

      p5 : word a b c d e f g h / 16777216 % 256 ≡ e
      p5 = omega arith

      p6 : word a b c d e f g h / 65536 % 256 ≡ f
      p6 = omega arith

      p7 : word a b c d e f g h / 256 % 256 ≡ g
      p7 = omega arith

      p8 : word a b c d e f g h % 256 ≡ h
      p8 = omega arith

  pub word_below : word a b c d e f g h < WORD
  word_below = omega arith

-- ---- and it is made of its bytes: each quotient is the next one and a byte

module _ (w a b c d e f g h p q r s t u : ℕ) where
  gathered : w ≡ p * 256 + h → p ≡ q * 256 + g → q ≡ r * 256 + f → r ≡ s * 256 + e → s ≡ t * 256 + d → t ≡ u * 256 + c → u ≡ a * 256 + b → word a b c d e f g h ≡ w
  gathered e1 e2 e3 e4 e5 e6 e7 = omega arith

pub word_bytes : (w : ℕ) → w < WORD
    → word (w / 72057594037927936 % 256) (w / 281474976710656 % 256) (w / 1099511627776 % 256) (w / 4294967296 % 256) (w / 16777216 % 256) (w / 65536 % 256) (w / 256 % 256) (w % 256) ≡ w
word_bytes w l = gathered w _ _ _ _ _ _ _ _ (w / 256) (w / 65536) (w / 16777216) (w / 4294967296) (w / 1099511627776) (w / 281474976710656) p1 p2 p3 p4 p5 p6 p7
  where
    p1 : w ≡ w / 256 * 256 + w % 256
    p1 = omega arith

    p2 : w / 256 ≡ w / 65536 * 256 + w / 256 % 256
    p2 = omega arith

    p3 : w / 65536 ≡ w / 16777216 * 256 + w / 65536 % 256
    p3 = omega arith

    p4 : w / 16777216 ≡ w / 4294967296 * 256 + w / 16777216 % 256
    p4 = omega arith

    p5 : w / 4294967296 ≡ w / 1099511627776 * 256 + w / 4294967296 % 256
    p5 = omega arith

    p6 : w / 1099511627776 ≡ w / 281474976710656 * 256 + w / 1099511627776 % 256
    p6 = omega arith

    p7 : w / 281474976710656 ≡ w / 72057594037927936 % 256 * 256 + w / 281474976710656 % 256
    p7 = omega arith

-- ---- a place in a word is one of eight

pub eight : (P : ℕ → Type 0) → P 0 → P 1 → P 2 → P 3 → P 4 → P 5 → P 6 → P 7 → (r : ℕ) → r < 8 → P r
eight P p0 p1 p2 p3 p4 p5 p6 p7 zero h = p0
eight P p0 p1 p2 p3 p4 p5 p6 p7 (suc zero) h = p1
eight P p0 p1 p2 p3 p4 p5 p6 p7 (suc (suc zero)) h = p2
eight P p0 p1 p2 p3 p4 p5 p6 p7 (suc (suc (suc zero))) h = p3
eight P p0 p1 p2 p3 p4 p5 p6 p7 (suc (suc (suc (suc zero)))) h = p4
eight P p0 p1 p2 p3 p4 p5 p6 p7 (suc (suc (suc (suc (suc zero))))) h = p5
eight P p0 p1 p2 p3 p4 p5 p6 p7 (suc (suc (suc (suc (suc (suc zero)))))) h = p6
eight P p0 p1 p2 p3 p4 p5 p6 p7 (suc (suc (suc (suc (suc (suc (suc zero))))))) h = p7
eight P p0 p1 p2 p3 p4 p5 p6 p7 (suc (suc (suc (suc (suc (suc (suc (suc r)))))))) h = absurd (omega arith)

-- ---- one byte changed

-- a word with something taken away and something put in its place has these bytes
abbrev Changed : (w old new : ℕ) (bs : List ℕ) → Type 0
Changed w old new bs = bytes_of (w - old % WORD + new % WORD) ≡ bs

changed-to : (w old new a b c d e f g h : ℕ) → a < 256 → b < 256 → c < 256 → d < 256 → e < 256 → f < 256 → g < 256 → h < 256
    → w - old % WORD + new % WORD ≡ word a b c d e f g h → Changed w old new (a ∷ b ∷ c ∷ d ∷ e ∷ f ∷ g ∷ h ∷ [])
changed-to w old new a b c d e f g h A B C D E F G H q = ap bytes_of q ∙ bytes_word a b c d e f g h A B C D E F G H

module _ (w a b c d e f g h x : ℕ) (A : a < 256) (B : b < 256) (C : c < 256) (D : d < 256) (E : e < 256) (F : f < 256) (G : g < 256) (H : h < 256) (X : x < 256) (W : word a b c d e f g h ≡ w) where
  at0 : Changed w (a * 72057594037927936) (x * 72057594037927936) (x ∷ b ∷ c ∷ d ∷ e ∷ f ∷ g ∷ h ∷ [])
  at0 = changed-to w (a * 72057594037927936) (x * 72057594037927936) x b c d e f g h X B C D E F G H (omega arith)

  at1 : Changed w (b * 281474976710656) (x * 281474976710656) (a ∷ x ∷ c ∷ d ∷ e ∷ f ∷ g ∷ h ∷ [])
  at1 = changed-to w (b * 281474976710656) (x * 281474976710656) a x c d e f g h A X C D E F G H (omega arith)

  at2 : Changed w (c * 1099511627776) (x * 1099511627776) (a ∷ b ∷ x ∷ d ∷ e ∷ f ∷ g ∷ h ∷ [])
  at2 = changed-to w (c * 1099511627776) (x * 1099511627776) a b x d e f g h A B X D E F G H (omega arith)

  at3 : Changed w (d * 4294967296) (x * 4294967296) (a ∷ b ∷ c ∷ x ∷ e ∷ f ∷ g ∷ h ∷ [])
  at3 = changed-to w (d * 4294967296) (x * 4294967296) a b c x e f g h A B C X E F G H (omega arith)

  at4 : Changed w (e * 16777216) (x * 16777216) (a ∷ b ∷ c ∷ d ∷ x ∷ f ∷ g ∷ h ∷ [])
  at4 = changed-to w (e * 16777216) (x * 16777216) a b c d x f g h A B C D X F G H (omega arith)

  at5 : Changed w (f * 65536) (x * 65536) (a ∷ b ∷ c ∷ d ∷ e ∷ x ∷ g ∷ h ∷ [])
  at5 = changed-to w (f * 65536) (x * 65536) a b c d e x g h A B C D E X G H (omega arith)

  at6 : Changed w (g * 256) (x * 256) (a ∷ b ∷ c ∷ d ∷ e ∷ f ∷ x ∷ h ∷ [])
  at6 = changed-to w (g * 256) (x * 256) a b c d e f x h A B C D E F X H (omega arith)

  at7 : Changed w (h * 1) (x * 1) (a ∷ b ∷ c ∷ d ∷ e ∷ f ∷ g ∷ x ∷ [])
  at7 = changed-to w (h * 1) (x * 1) a b c d e f g x A B C D E F G X (omega arith)

  at_place : (r : ℕ) → r < 8
      → Changed w (get_or (a ∷ b ∷ c ∷ d ∷ e ∷ f ∷ g ∷ h ∷ []) r 0 * 2 ^ (56 - 8 * r)) (x * 2 ^ (56 - 8 * r)) (set (a ∷ b ∷ c ∷ d ∷ e ∷ f ∷ g ∷ h ∷ []) r x)
  at_place =
      eight (λ r. Changed w (get_or (a ∷ b ∷ c ∷ d ∷ e ∷ f ∷ g ∷ h ∷ []) r 0 * 2 ^ (56 - 8 * r)) (x * 2 ^ (56 - 8 * r)) (set (a ∷ b ∷ c ∷ d ∷ e ∷ f ∷ g ∷ h ∷ []) r x))
      at0 at1 at2 at3 at4 at5 at6 at7

-- the byte at place r of a word, as high as it stands, taken away, and x put in its place
pub changes : (w x r : ℕ) → w < WORD → x < 256 → r < 8 → Changed w (get_or (bytes_of w) r 0 * 2 ^ (56 - 8 * r)) (x * 2 ^ (56 - 8 * r)) (set (bytes_of w) r x)
changes w x r W X R =
    at_place w (w / 72057594037927936 % 256) (w / 281474976710656 % 256) (w / 1099511627776 % 256) (w / 4294967296 % 256) (w / 16777216 % 256) (w / 65536 % 256) (w / 256 % 256) (w % 256) x
    (below (w / 72057594037927936)) (below (w / 281474976710656)) (below (w / 1099511627776)) (below (w / 4294967296)) (below (w / 16777216)) (below (w / 65536)) (below (w / 256)) (below w) X (word_bytes w W) r R
  where
    below : (y : ℕ) → y % 256 < 256
    below y = omega arith
