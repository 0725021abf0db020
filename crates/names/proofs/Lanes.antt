-- Eight bytes tested at once: sums, `xor` and `and` of words go byte by byte where no sum reaches 256, so a test of the lowest byte and of
-- the word above it is the test of the word. Assumes nothing.
use mathlib.Core.Path.{◌≡◌, refl, sym, ap, ap₂, ◌∙◌}
use mathlib.Core.Bool.{true}
use mathlib.Core.List.{[], ◌∷◌}
use Prim.Native.Nat.{ℕ, ◌+◌, ◌*◌, ◌/◌, ◌%◌, ◌<◌}
use native.Mathlib.Nat.{mod-eq_of_lt}
use native.Mathlib.Omega.{arith}
use borrow.Author.Tests.{eq-eqb}
use lib.Bits.{bit_and, bit_xor, and_block, and_high, and_lt, xor_block, xor_lt}
use lib.Dec.{eqb, lit<}
use Rattle.value.specs.Classes.{name_byte}
use Rattle.value.proofs.Masks.{agree}
use Rattle.words.specs.Halves.{all}
use Rattle.plain.proofs.Each.{Each}
use Rattle.words.proofs.Each.{WORD, each_all}
use Rattle.octets.specs.Octets.{bytes_of}
use Rattle.octets.proofs.Eight.{word_bytes}

-- ---- a word as its lowest byte and the word above it

record Lane (v p x : ℕ) : Type 0 where
  pub made : v ≡ p * 256 + x
  pub byte : x < 256

module _ (v p x u q y : ℕ) (k : Lane v p x) (l : Lane u q y) where
  xor-lane : Lane (bit_xor v u) (bit_xor p q) (bit_xor x y)
  xor-lane = record { made = ap₂ bit_xor k.made l.made ∙ xor_block 8 p q x y k.byte l.byte; byte = xor_lt 8 x y k.byte l.byte }

  and-lane : Lane (bit_and v u) (bit_and p q) (bit_and x y)
  and-lane = record { made = ap₂ bit_and k.made l.made ∙ and_block 8 p q x y k.byte l.byte; byte = and_lt 8 x y k.byte l.byte }

-- ---- the highest bits, and those of the sums: r has 1 in each byte

abbrev tops : (r w : ℕ) → ℕ
tops r w = bit_and w (128 * r)

abbrev marks : (r w : ℕ) → ℕ
marks r w =
    tops r
    (bit_xor
    (bit_xor (bit_xor (bit_xor (w + 80 * r) (w + 70 * r)) (bit_xor (w + 63 * r) (w + 37 * r))) (bit_xor (w + 33 * r) (w + 32 * r)))
    (bit_xor (w + 31 * r) (w + 5 * r)))

module _ (r p x : ℕ) where
  abbrev R : ℕ
  R = r * 256 + 1

  abbrev W : ℕ
  W = p * 256 + x

  top_lane : Lane (128 * R) (128 * r) 128
  top_lane = record { made = omega arith; byte = lit< tt }

  -- no byte has its highest bit
  low-lane : x < 256 → tops R W ≡ 0 → (x < 128) × (tops r p ≡ 0)
  low-lane h e =
      let l = and-lane W p x (128 * R) (128 * r) 128 (record { made = refl; byte = h }) top_lane in
      let t : bit_and x 128 ≡ x / 128 % 2 * 128 = and_high x 1 7 in
      let d : x / 128 % 2 ≡ x / 128 = mod-eq_of_lt (omega arith) in
      (omega (arith, l.made), omega (arith, l.made))

  module _ (h : x < 128) where
    marks-lane : Lane (marks R W) (marks r p) (marks 1 x)
    marks-lane =
        and-lane _ _ _ _ _ _
        (xor-lane _ _ _ _ _ _
        (xor-lane _ _ _ _ _ _
        (xor-lane _ _ _ _ _ _
        (xor-lane (W + 80 * R) (p + 80 * r) (x + 80) (W + 70 * R) (p + 70 * r) (x + 70) (record { made = omega arith; byte = omega arith }) (record { made = omega arith; byte = omega arith }))
        (xor-lane (W + 63 * R) (p + 63 * r) (x + 63) (W + 37 * R) (p + 37 * r) (x + 37) (record { made = omega arith; byte = omega arith }) (record { made = omega arith; byte = omega arith })))
        (xor-lane (W + 33 * R) (p + 33 * r) (x + 33) (W + 32 * R) (p + 32 * r) (x + 32) (record { made = omega arith; byte = omega arith }) (record { made = omega arith; byte = omega arith })))
        (xor-lane (W + 31 * R) (p + 31 * r) (x + 31) (W + 5 * R) (p + 5 * r) (x + 5) (record { made = omega arith; byte = omega arith }) (record { made = omega arith; byte = omega arith })))
        top_lane

    -- every byte has its mark
    marked-lane : marks R W ≡ 128 * R → (marks 1 x ≡ 128) × (marks r p ≡ 128 * r)
    marked-lane e = let l = marks-lane in (omega (arith, l.made, l.byte), omega (arith, l.made, l.byte))

-- ---- a byte below 128 has its mark exactly when it is a name byte, which is computed

marked : (b : ℕ) → b < 128 → marks 1 b ≡ 128 → name_byte b ≡ true
marked b h e = sym (agree (λ b. eqb (marks 1 b) 128) name_byte 128 refl b h) ∙ eq-eqb (marks 1 b) 128 e

-- ---- eight bytes

module _ (a b c d e f g h : ℕ) (A : a < 256) (B : b < 256) (C : c < 256) (D : d < 256) (E : e < 256) (F : f < 256) (G : g < 256) (H : h < 256) where
  abbrev w2 : ℕ
  w2 = a * 256 + b

  abbrev w3 : ℕ
  w3 = w2 * 256 + c

  abbrev w4 : ℕ
  w4 = w3 * 256 + d

  abbrev w5 : ℕ
  w5 = w4 * 256 + e

  abbrev w6 : ℕ
  w6 = w5 * 256 + f

  abbrev w7 : ℕ
  w7 = w6 * 256 + g

  abbrev w8 : ℕ
  w8 = w7 * 256 + h

  named : tops 0x0101010101010101 w8 ≡ 0 → marks 0x0101010101010101 w8 ≡ 0x8080808080808080 → Each (λ b. name_byte b ≡ true) (a ∷ b ∷ c ∷ d ∷ e ∷ f ∷ g ∷ h ∷ [])
  named z m =
      let zh = low-lane 0x01010101010101 w7 h H z in
      let zg = low-lane 0x010101010101 w6 g G zh.1 in
      let zf = low-lane 0x0101010101 w5 f F zg.1 in
      let ze = low-lane 0x01010101 w4 e E zf.1 in
      let zd = low-lane 0x010101 w3 d D ze.1 in
      let zc = low-lane 0x0101 w2 c C zd.1 in
      let zb = low-lane 0x01 a b B zc.1 in
      let za = low-lane 0 0 a A (ap (λ (v : ℕ). tops 1 v) (lowest a) ∙ zb.1) in
      let mh = marked-lane 0x01010101010101 w7 h zh.0 m in
      let mg = marked-lane 0x010101010101 w6 g zg.0 mh.1 in
      let mf = marked-lane 0x0101010101 w5 f zf.0 mg.1 in
      let me = marked-lane 0x01010101 w4 e ze.0 mf.1 in
      let md = marked-lane 0x010101 w3 d zd.0 me.1 in
      let mc = marked-lane 0x0101 w2 c zc.0 md.1 in
      let mb = marked-lane 0x01 a b zb.0 mc.1 in
      (marked a za.0 mb.1, (marked b zb.0 mb.0, (marked c zc.0 mc.0, (marked d zd.0 md.0, (marked e ze.0 me.0, (marked f zf.0 mf.0, (marked g zg.0 mg.0, (marked h zh.0 mh.0, tt))))))))
    where
      lowest : (a : ℕ) → 0 * 256 + a ≡ a
      lowest a = omega arith

module _ (w : ℕ) (h : w < WORD) where
  below : (x : ℕ) → x % 256 < 256
  below x = omega arith

  pub whole : bit_and w 0x8080808080808080 ≡ 0 → marks 0x0101010101010101 w ≡ 0x8080808080808080 → all name_byte (bytes_of w) ≡ true
  whole z m =
      each_all name_byte (bytes_of w)
      (named (w / 72057594037927936 % 256) (w / 281474976710656 % 256) (w / 1099511627776 % 256) (w / 4294967296 % 256) (w / 16777216 % 256) (w / 65536 % 256) (w / 256 % 256) (w % 256)
      (below (w / 72057594037927936)) (below (w / 281474976710656)) (below (w / 1099511627776)) (below (w / 4294967296)) (below (w / 16777216)) (below (w / 65536)) (below (w / 256)) (below w)
      (ap (tops 0x0101010101010101) nested ∙ z) (ap (marks 0x0101010101010101) nested ∙ m))
    where
      nested : ((((((w / 72057594037927936 % 256 * 256 + w / 281474976710656 % 256) * 256 + w / 1099511627776 % 256) * 256 + w / 4294967296 % 256) * 256 + w / 16777216 % 256) * 256 + w / 65536 % 256) * 256 + w / 256 % 256) * 256 + w % 256 ≡ w
      nested = omega (arith, word_bytes w h)
