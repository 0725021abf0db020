-- Eight bytes tested at once: a word whose bytes have no highest bit, nor with 1 added, and all have it with 96 added, has bytes from 32 to
-- 126 only. Assumes nothing.
use mathlib.Core.Path.{◌≡◌, sym, ap, ◌∙◌}
use mathlib.Core.Bool.{true}
use mathlib.Core.List.{[], ◌∷◌}
use Prim.Native.Nat.{ℕ, ◌+◌, ◌*◌, ◌/◌, ◌%◌, ◌≤◌, ◌<◌}
use native.Mathlib.Nat.{mod-eq_of_lt}
use native.Mathlib.Omega.{arith}
use lib.Bits.{bit_and, and_block, and_high}
use lib.Dec.{lit<}
use Rattle.plain.specs.Bytes.{fair}
use Rattle.words.specs.Halves.{all}
use Rattle.plain.proofs.Each.{Each, each_weaken}
use Rattle.words.proofs.Each.{WORD, each_all}
use Rattle.plain.proofs.Ranges.{within-inside}
use Rattle.octets.specs.Octets.{bytes_of}
use Rattle.octets.proofs.Eight.{word, word_bytes}

-- the highest bit of each byte, 1 in each, and 96 in each
abbrev TOPS : ℕ
TOPS = 0x8080808080808080

abbrev ONES : ℕ
ONES = 0x0101010101010101

abbrev LIFTS : ℕ
LIFTS = 0x6060606060606060

-- ---- the highest bits

abbrev top : ℕ → ℕ
top b = b / 128 % 2 * 128

top-step : (p q x : ℕ) → x < 256 → bit_and (p * 256 + x) (q * 256 + 128) ≡ bit_and p q * 256 + top x
top-step p q x h = and_block 8 p q x 128 h (lit< tt) ∙ ap (λ (y : ℕ). bit_and p q * 256 + y) (and_high x 1 7)

no_top : (x : ℕ) → x < 256 → top x ≡ 0 → x < 128
no_top x h e = let p : x / 128 % 2 ≡ x / 128 = mod-eq_of_lt (omega arith) in omega arith

zero_word : (a b c d e f g h : ℕ) → word a b c d e f g h ≡ 0 → Each (λ b. b ≡ 0) (a ∷ b ∷ c ∷ d ∷ e ∷ f ∷ g ∷ h ∷ [])
zero_word a b c d e f g h z = (omega arith, (omega arith, (omega arith, (omega arith, (omega arith, (omega arith, (omega arith, (omega arith, tt))))))))

module _ (a b c d e f g h : ℕ) (A : a < 256) (B : b < 256) (C : c < 256) (D : d < 256) (E : e < 256) (F : f < 256) (G : g < 256) (H : h < 256) where
  tops-nested : bit_and (((((((a * 256 + b) * 256 + c) * 256 + d) * 256 + e) * 256 + f) * 256 + g) * 256 + h) TOPS ≡ ((((((top a * 256 + top b) * 256 + top c) * 256 + top d) * 256 + top e) * 256 + top f) * 256 + top g) * 256 + top h
  tops-nested = top-step ((((((a * 256 + b) * 256 + c) * 256 + d) * 256 + e) * 256 + f) * 256 + g) 36170086419038336 h H ∙ ap (λ (y : ℕ). y * 256 + top h) (top-step (((((a * 256 + b) * 256 + c) * 256 + d) * 256 + e) * 256 + f) 141289400074368 g G ∙ ap (λ (y : ℕ). y * 256 + top g) (top-step ((((a * 256 + b) * 256 + c) * 256 + d) * 256 + e) 551911719040 f F ∙ ap (λ (y : ℕ). y * 256 + top f) (top-step (((a * 256 + b) * 256 + c) * 256 + d) 2155905152 e E ∙ ap (λ (y : ℕ). y * 256 + top e) (top-step ((a * 256 + b) * 256 + c) 8421504 d D ∙ ap (λ (y : ℕ). y * 256 + top d) (top-step (a * 256 + b) 32896 c C ∙ ap (λ (y : ℕ). y * 256 + top c) (top-step a 128 b B ∙ ap (λ (y : ℕ). y * 256 + top b) (and_high a 1 7)))))))

  tops : bit_and (word a b c d e f g h) TOPS ≡ word (top a) (top b) (top c) (top d) (top e) (top f) (top g) (top h)
  tops =
      let p : word a b c d e f g h ≡ ((((((a * 256 + b) * 256 + c) * 256 + d) * 256 + e) * 256 + f) * 256 + g) * 256 + h = omega arith in
      let q : ((((((top a * 256 + top b) * 256 + top c) * 256 + top d) * 256 + top e) * 256 + top f) * 256 + top g) * 256 + top h ≡ word (top a) (top b) (top c) (top d) (top e) (top f) (top g) (top h) = omega arith in
      ap (λ (v : ℕ). bit_and v TOPS) p ∙ tops-nested ∙ q

  none-top : bit_and (word a b c d e f g h) TOPS ≡ 0 → Each (λ b. b < 128) (a ∷ b ∷ c ∷ d ∷ e ∷ f ∷ g ∷ h ∷ [])
  none-top z =
      let t = zero_word (top a) (top b) (top c) (top d) (top e) (top f) (top g) (top h) (sym tops ∙ z) in
      (no_top a A t.0, (no_top b B t.1.0, (no_top c C t.1.1.0, (no_top d D t.1.1.1.0, (no_top e E t.1.1.1.1.0, (no_top f F t.1.1.1.1.1.0, (no_top g G t.1.1.1.1.1.1.0, (no_top h H t.1.1.1.1.1.1.1.0, tt))))))))

  each-top : bit_and (word a b c d e f g h) TOPS ≡ TOPS → Each (λ b. 128 ≤ b) (a ∷ b ∷ c ∷ d ∷ e ∷ f ∷ g ∷ h ∷ [])
  each-top z = let t = tops in (omega arith, (omega arith, (omega arith, (omega arith, (omega arith, (omega arith, (omega arith, (omega arith, tt))))))))

-- ---- bytes from 32 to 126

abbrev Fair : ℕ → Type 0
Fair b = (32 ≤ b) × (b ≤ 126)

module _ (w a b c d e f g h : ℕ) (A : a < 256) (B : b < 256) (C : c < 256) (D : d < 256) (E : e < 256) (F : f < 256) (G : g < 256) (H : h < 256) (W : word a b c d e f g h ≡ w) (Z : bit_and w TOPS ≡ 0) where
  small : Each (λ b. b < 128) (a ∷ b ∷ c ∷ d ∷ e ∷ f ∷ g ∷ h ∷ [])
  small = none-top a b c d e f g h A B C D E F G H (ap (λ (v : ℕ). bit_and v TOPS) W ∙ Z)

  below_half : w < 0x8080808080808080
  below_half = let s = small in omega arith

  ones : bit_and (w + ONES) TOPS ≡ 0 → Each (λ b. b < 128) ((a + 1) ∷ (b + 1) ∷ (c + 1) ∷ (d + 1) ∷ (e + 1) ∷ (f + 1) ∷ (g + 1) ∷ (h + 1) ∷ [])
  ones z =
      let s = small in
      let q : word (a + 1) (b + 1) (c + 1) (d + 1) (e + 1) (f + 1) (g + 1) (h + 1) ≡ w + ONES = omega arith in
      none-top (a + 1) (b + 1) (c + 1) (d + 1) (e + 1) (f + 1) (g + 1) (h + 1) (omega arith) (omega arith) (omega arith) (omega arith) (omega arith) (omega arith) (omega arith) (omega arith) (ap (λ (v : ℕ). bit_and v TOPS) q ∙ z)

  lifts : bit_and (w + LIFTS) TOPS ≡ TOPS → Each (λ b. 128 ≤ b) ((a + 96) ∷ (b + 96) ∷ (c + 96) ∷ (d + 96) ∷ (e + 96) ∷ (f + 96) ∷ (g + 96) ∷ (h + 96) ∷ [])
  lifts z =
      let s = small in
      let q : word (a + 96) (b + 96) (c + 96) (d + 96) (e + 96) (f + 96) (g + 96) (h + 96) ≡ w + LIFTS = omega arith in
      each-top (a + 96) (b + 96) (c + 96) (d + 96) (e + 96) (f + 96) (g + 96) (h + 96) (omega arith) (omega arith) (omega arith) (omega arith) (omega arith) (omega arith) (omega arith) (omega arith) (ap (λ (v : ℕ). bit_and v TOPS) q ∙ z)

  fair-bytes : bit_and (w + ONES) TOPS ≡ 0 → bit_and (w + LIFTS) TOPS ≡ TOPS → Each Fair (a ∷ b ∷ c ∷ d ∷ e ∷ f ∷ g ∷ h ∷ [])
  fair-bytes y z =
      let p = ones y in
      let q = lifts z in
      ((omega (arith, q.0), omega (arith, p.0)), ((omega (arith, q.1.0), omega (arith, p.1.0)), ((omega (arith, q.1.1.0), omega (arith, p.1.1.0)), ((omega (arith, q.1.1.1.0), omega (arith, p.1.1.1.0)), ((omega (arith, q.1.1.1.1.0), omega (arith, p.1.1.1.1.0)), ((omega (arith, q.1.1.1.1.1.0), omega (arith, p.1.1.1.1.1.0)), ((omega (arith, q.1.1.1.1.1.1.0), omega (arith, p.1.1.1.1.1.1.0)), ((omega (arith, q.1.1.1.1.1.1.1.0), omega (arith, p.1.1.1.1.1.1.1.0)), tt))))))))

module _ (w : ℕ) (h : w < WORD) (Z : bit_and w TOPS ≡ 0) where
  below : (x : ℕ) → x % 256 < 256
  below x = omega arith

  pub half-word : w < TOPS
  half-word = below_half w (w / 72057594037927936 % 256) (w / 281474976710656 % 256) (w / 1099511627776 % 256) (w / 4294967296 % 256) (w / 16777216 % 256) (w / 65536 % 256) (w / 256 % 256) (w % 256) (below (w / 72057594037927936)) (below (w / 281474976710656)) (below (w / 1099511627776)) (below (w / 4294967296)) (below (w / 16777216)) (below (w / 65536)) (below (w / 256)) (below w) (word_bytes w h) Z

  pub plain_word : bit_and (w + ONES) TOPS ≡ 0 → bit_and (w + LIFTS) TOPS ≡ TOPS → all fair (bytes_of w) ≡ true
  plain_word y z =
      each_all fair (bytes_of w)
      (each_weaken Fair (λ b. fair b ≡ true) (λ b f. rw (within-inside 32 126 b f.0 f.1)) (bytes_of w)
      (fair-bytes w (w / 72057594037927936 % 256) (w / 281474976710656 % 256) (w / 1099511627776 % 256) (w / 4294967296 % 256) (w / 16777216 % 256) (w / 65536 % 256) (w / 256 % 256) (w % 256) (below (w / 72057594037927936)) (below (w / 281474976710656)) (below (w / 1099511627776)) (below (w / 4294967296)) (below (w / 16777216)) (below (w / 65536)) (below (w / 256)) (below w) (word_bytes w h) Z y z))
