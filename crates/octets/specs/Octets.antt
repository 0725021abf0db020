-- Bytes packed into words of 64 bits: eight to a word, the first one highest, without gaps. Definitions only.
use Rattle.std.specs.Prelude.{ℕ, zero, suc, ◌+◌, ◌*◌, ◌/◌, ◌%◌, List, [], ◌∷◌, ◌++◌, length, drop, get_or}
use Rattle.words.specs.Over.{over, part}

-- a word's eight bytes, the highest first
abbrev pub bytes_of : ℕ → List ℕ
bytes_of w =
    w / 72057594037927936 % 256 ∷ w / 281474976710656 % 256 ∷ w / 1099511627776 % 256 ∷ w / 4294967296 % 256 ∷ w / 16777216 % 256
    ∷ w / 65536 % 256 ∷ w / 256 % 256 ∷ w % 256 ∷ []

-- the bytes of some words
unfoldable pub octets : List ℕ → List ℕ
octets [] = []
octets (w ∷ ws) = bytes_of w ++ octets ws

-- the word of the eight bytes in front, the first one highest; where there are fewer, zeros stand in for them
abbrev pub word_of : List ℕ → ℕ
word_of bs =
    get_or bs 0 0 * 72057594037927936 + get_or bs 1 0 * 281474976710656 + get_or bs 2 0 * 1099511627776 + get_or bs 3 0 * 4294967296
    + get_or bs 4 0 * 16777216 + get_or bs 5 0 * 65536 + get_or bs 6 0 * 256 + get_or bs 7 0

-- n words of the first 8 · n bytes
unfoldable pub packed : (n : ℕ) → List ℕ → List ℕ
packed zero bs = []
packed (suc n) bs = word_of bs ∷ packed n (drop 8 bs)

-- words with bytes written over theirs from place `at` on; what does not fit is left out
unfoldable pub inked : (at : ℕ) → (bs ws : List ℕ) → List ℕ
inked at bs ws = packed (length ws) (over at bs (octets ws))

-- a memory with bytes written over those of its n words from place `area` on
abbrev pub inked_in : (area n at : ℕ) → (bs m : List ℕ) → List ℕ
inked_in area n at bs m = over area (inked at bs (part area n m)) m
