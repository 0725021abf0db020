-- A string is written a byte at a time: the bytes written so far and those left in the line are all of it. Assumes nothing.
use Prim.Native.Nat.{ℕ, ◌+◌, ◌≤◌, ◌<◌}
use native.Mathlib.Omega.{arith}
use mathlib.Core.Path.{◌≡◌, refl, sym, ap, ◌∙◌}
use mathlib.Core.List.{List, [], ◌∷◌, ◌++◌, append_assoc, append-nil}
use lib.ListN.{length, drop, get_or, length-append}
use Rattle.plain.proofs.Each.{each_append, each_take, each-drop}
use Rattle.value.specs.Strings.{scanned, contents, undoubled}
use Rattle.value.proofs.Found.{undoubled-at}
use Rattle.value.proofs.Quotes.{width, byte_left, next-byte}
use Rattle.words.specs.Over.{over, part}
use Rattle.words.proofs.Each.{WORD, Words}
use Rattle.words.proofs.Over.{over-same}
use Rattle.octets.specs.Octets.{inked_in}
use Rattle.octets.proofs.Bytes.{Bytes}
use Rattle.octets.proofs.Inked.{inked-nil}
use Rattle.octets.proofs.Areas.{inked-in-append}
use Rattle.layout.specs.Limits.{BYTES_AT, BYTEWORDS}

-- a memory with bytes written over those of strings
abbrev spelt : (at : ℕ) → (bs m : List ℕ) → List ℕ
spelt at bs m = inked_in BYTES_AT BYTEWORDS at bs m

-- no bytes leave it as it is
spelt-none : (at : ℕ) (m : List ℕ) → Words m → spelt at [] m ≡ m
spelt-none at m w =
    let ws = part BYTES_AT BYTEWORDS m in
    ap (λ (l : List ℕ). over BYTES_AT l m) (inked-nil at ws (each_take (λ x. x < WORD) BYTEWORDS (drop BYTES_AT m) (each-drop (λ x. x < WORD) BYTES_AT m w)))
    ∙ over-same BYTES_AT BYTEWORDS m

nothing : (xs : List ℕ) → length xs ≤ 0 → xs ≡ []
nothing [] h = refl
nothing (x ∷ xs) h = absurd (omega arith)

-- after j bytes of a string, the next one looked for at place k of the line
pub record Copying (line string : List ℕ) (at : ℕ) (before : List ℕ) (k j : ℕ) (m : List ℕ) : Type 0 where
  pub written : List ℕ
  pub bytes : Bytes written
  pub count : length written ≡ j
  pub whole : written ++ contents (scanned (drop k line)) ≡ string
  pub memory : m ≡ spelt at written before

pub at_first : (line : List ℕ) (from at : ℕ) (m : List ℕ) → Words m → Copying line (undoubled (drop from line)) at m (from + 1) 0 m
at_first line from at m w =
    record { written = []; bytes = tt; count = refl; whole = sym (undoubled-at line from); memory = sym (spelt-none at m w) }

module _ (line string : List ℕ) (at : ℕ) (before : List ℕ) (k j : ℕ) (m : List ℕ) (f : Copying line string at before k j m) where
  abbrev left : List ℕ
  left = contents (scanned (drop k line))

  all : j + length left ≡ length string
  all = omega (arith, ap length f.whole, length-append f.written left, f.count)

  -- while bytes are left, the line has one
  pub reads : j < length string → k < length line
  reads h = byte_left line k (omega (arith, all))

  pub one_more : j < length string → BYTES_AT + BYTEWORDS ≤ length before → (b : ℕ) → b ≡ get_or line k 0 → b < 256 → (n : ℕ) → n ≡ k + width b
      → (m' : List ℕ) → m' ≡ spelt (at + j) (b ∷ []) m → Copying line string at before n (j + 1) m'
  one_more h z b e s n w m' p =
      let r : left ≡ b ∷ contents (scanned (drop n line)) =
      next-byte line k (omega (arith, all)) ∙ sym ((λ i. e i ∷ contents (scanned (drop (w i) line))) ∙ ap (λ (c : ℕ). get_or line k 0 ∷ contents (scanned (drop (k + width c) line))) e) in
      record {
        written = f.written ++ (b ∷ []);
        bytes = each_append (λ x. x < 256) f.written (b ∷ []) f.bytes (s, tt);
        count = omega (arith, length-append f.written (b ∷ []), f.count);
        whole = append_assoc f.written (b ∷ []) (contents (scanned (drop n line))) ∙ ap (λ (x : List ℕ). f.written ++ x) (sym r) ∙ f.whole;
        memory = p ∙ (λ i. spelt (at + sym f.count i) (b ∷ []) (f.memory i)) ∙ inked-in-append BYTES_AT BYTEWORDS at f.written before z (b ∷ []) f.bytes;
      }

  -- no byte is left
  pub at_last : length string ≤ j → m ≡ spelt at string before
  at_last h =
      let e : left ≡ [] = nothing left (omega (arith, all)) in
      f.memory ∙ ap (λ (x : List ℕ). spelt at x before) (sym (append-nil f.written) ∙ ap (λ (x : List ℕ). f.written ++ x) (sym e) ∙ f.whole)
