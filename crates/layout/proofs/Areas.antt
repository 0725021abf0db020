-- The areas of a memory of the fixed size: how many words each has in use, and how many bytes; and those of a memory under totals that are not its
-- own, which stand behind all totals. Assumes nothing.
use mathlib.Core.Path.{◌≡◌, refl, sym, ap, ap₂, ◌∙◌}
use mathlib.Core.List.{List, [], ◌∷◌}
use Prim.Native.Nat.{ℕ, ◌+◌, ◌*◌, ◌≤◌, ◌<◌}
use native.Mathlib.Omega.{arith}
use lib.Dec.{lit<}
use lib.ListN.{length, take, drop, get_or, length-drop}
use lib.Seq.{length-take-le, get_or-take, get_or-drop}
use Rattle.words.specs.Over.{over, part}
use Rattle.words.proofs.Over.{over-nil, length_over, part-over, part-after}
use Rattle.octets.specs.Octets.{octets}
use Rattle.octets.proofs.Bytes.{length-octets}
use Rattle.names.specs.Names.{NAMEWORDS}
use Rattle.layout.specs.Limits.{WORDS, BYTEWORDS, TEXTS_AT, HEADS_AT, NAMES_AT, VALUES_AT, BYTES_AT}
use Rattle.layout.specs.Memory.{text_count, statement_count, value_count, byte_count, text_words, head_words, name_words, value_words, held_bytes}
use Rattle.layout.specs.Damage.{Framed}
use Rattle.layout.specs.Totals.{under, own_totals}
use Rattle.layout.specs.declared.front.Totals.{Totals}

pub length_part : {A : Type 0} (o n : ℕ) (m : List A) → o + n ≤ length m → length (part o n m) ≡ n
length_part o n m h = length-take-le n _ (omega (arith, length-drop o m))

module _ (m : List ℕ) (z : Framed m) where
  pub length-texts : length (text_words m) ≡ text_count m
  length-texts = length_part TEXTS_AT (text_count m) m (omega arith)

  pub length-heads : length (head_words m) ≡ statement_count m
  length-heads = length_part HEADS_AT (statement_count m) m (omega arith)

  pub length-names : length (name_words m) ≡ NAMEWORDS * statement_count m
  length-names = length_part NAMES_AT (NAMEWORDS * statement_count m) m (omega arith)

  pub length-values : length (value_words m) ≡ value_count m
  length-values = length_part VALUES_AT (value_count m) m (omega arith)

  -- all words of the strings' bytes, and the bytes in use
  pub length-bytewords : length (part BYTES_AT BYTEWORDS m) ≡ BYTEWORDS
  length-bytewords = length_part BYTES_AT BYTEWORDS m (omega arith)

  pub length-bytes : length (held_bytes m) ≡ byte_count m
  length-bytes = length-take-le (byte_count m) (octets (part BYTES_AT BYTEWORDS m)) (omega (arith, length-octets (part BYTES_AT BYTEWORDS m), length-bytewords))

-- ---- a memory under totals that are not its own

-- a word that was written over is read back
pub get_d_over : (at : ℕ) (xs m : List ℕ) (i : ℕ) → i < length xs → at + length xs ≤ length m → get_or (over at xs m) (at + i) 0 ≡ get_or xs i 0
get_d_over at xs m i h k =
    let y = over at xs m in
    sym (get_or-drop at y i 0) ∙ sym (get_or-take (length xs) (drop at y) i 0 h) ∙ ap (λ (l : List ℕ). get_or l i 0) (part-over at xs m k)

pub under-own : (m : List ℕ) → under (own_totals m) m ≡ m
unfolding over
under-own [] = refl
under-own (a ∷ []) = refl
under-own (a ∷ b ∷ []) = refl
under-own (a ∷ b ∷ c ∷ []) = refl
under-own (a ∷ b ∷ c ∷ d ∷ m) = ap (λ (l : List ℕ). a ∷ b ∷ c ∷ d ∷ l) (over-nil 0 m)

module _ (t : Totals) (m : List ℕ) (n : length m ≡ WORDS) where
  abbrev told : List ℕ
  told = t.texts ∷ t.statements ∷ t.values ∷ t.bytes ∷ []

  pub length-under : length (under t m) ≡ WORDS
  length-under = length_over 0 told m ∙ n

  pub text_count-under : text_count (under t m) ≡ t.texts
  text_count-under = get_d_over 0 told m 0 (lit< tt) (omega arith)

  pub statement_count-under : statement_count (under t m) ≡ t.statements
  statement_count-under = get_d_over 0 told m 1 (lit< tt) (omega arith)

  pub value_count-under : value_count (under t m) ≡ t.values
  value_count-under = get_d_over 0 told m 2 (lit< tt) (omega arith)

  pub byte_count-under : byte_count (under t m) ≡ t.bytes
  byte_count-under = get_d_over 0 told m 3 (lit< tt) (omega arith)

  area-under : (o k j : ℕ) → 4 ≤ o → k ≡ j → part o k (under t m) ≡ part o j m
  area-under o k j h e = part-after o k 0 told m h ∙ ap (λ (x : ℕ). part o x m) e

  pub texts-under : text_words (under t m) ≡ part TEXTS_AT t.texts m
  texts-under = area-under TEXTS_AT _ _ (omega arith) text_count-under

  pub heads-under : head_words (under t m) ≡ part HEADS_AT t.statements m
  heads-under = area-under HEADS_AT _ _ (omega arith) statement_count-under

  pub names-under : name_words (under t m) ≡ part NAMES_AT (NAMEWORDS * t.statements) m
  names-under = area-under NAMES_AT _ _ (omega arith) (ap (λ (k : ℕ). NAMEWORDS * k) statement_count-under)

  pub values-under : value_words (under t m) ≡ part VALUES_AT t.values m
  values-under = area-under VALUES_AT _ _ (omega arith) value_count-under

  pub bytes-under : held_bytes (under t m) ≡ take t.bytes (octets (part BYTES_AT BYTEWORDS m))
  bytes-under = ap₂ (λ (k : ℕ) (ws : List ℕ). take k (octets ws)) byte_count-under (area-under BYTES_AT BYTEWORDS BYTEWORDS (omega arith) refl)
