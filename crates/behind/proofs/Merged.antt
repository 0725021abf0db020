-- With the open text's counts in its totals, a memory reads as what it holds with the open text behind it: each area is the held words and then the
-- open text's. Assumes nothing.
use mathlib.Core.Path.{◌≡◌, sym, ap, subst, ◌∙◌}
use mathlib.Core.Bool.{true}
use mathlib.Core.List.{List, [], ◌∷◌, ◌++◌}
use Prim.Native.Nat.{ℕ, ◌+◌, ◌*◌, ◌<◌}
use native.Mathlib.Omega.{arith}
use lib.ListN.{length, take, drop, get_or}
use lib.Seq.{take-add, drop-drop}
use Rattle.statement.specs.Statements.{Statement}
use Rattle.words.specs.Over.{part}
use Rattle.words.proofs.Steps.{drop-next}
use Rattle.octets.specs.Octets.{octets}
use Rattle.names.specs.Names.{NAMEWORDS}
use Rattle.layout.specs.Limits.{WORDS, TEXTWORDS, BYTEWORDS, TEXTS_AT, HEADS_AT, NAMES_AT, VALUES_AT, BYTES_AT}
use Rattle.layout.specs.Memory.{text_count, statement_count, value_count, byte_count, text_words, head_words, name_words, value_words, held_bytes, cut_statements, cut_texts, decode, opens, open_word, open_statements, open_values, open_bytes, merged, open_body, open_text}
use Rattle.layout.specs.Damage.{sound}
use Rattle.layout.specs.Totals.{merged_totals}
use Rattle.layout.proofs.Areas.{length_part, length-heads, length-names, length-values, length-bytes, statement_count-under, texts-under, heads-under, names-under, values-under, bytes-under}
use Rattle.layout.proofs.Codec.{length_cut}
use Rattle.layout.proofs.Holds.{decode-fits, decode-legal}
use Rattle.layout.proofs.Legal.{FitsIn, Legal}
use Rattle.layout.proofs.Sound.{Sound, SoundOpen, sound-of, sound-open}
use Rattle.behind.proofs.Cutting.{statements-behind, texts-behind}

part-add : (o a b : ℕ) (m : List ℕ) → part o (a + b) m ≡ part o a m ++ part (o + a) b m
part-add o a b m = take-add a b (drop o m) ∙ ap (λ (l : List ℕ). part o a m ++ take b l) (drop-drop a o m)

part-one : (o : ℕ) (m : List ℕ) → o < length m → part o 1 m ≡ get_or m o 0 ∷ []
part-one o m h = ap (take 1) (drop-next m o 0 h)

-- ---- each area with the open text's words

module _ (m : List ℕ) (n : length m ≡ WORDS) where
  pub texts-merged : text_count m < TEXTWORDS → text_words (merged m) ≡ text_words m ++ (open_word m ∷ [])
  texts-merged h =
      texts-under (merged_totals m) m n ∙ part-add TEXTS_AT (text_count m) 1 m
      ∙ ap (λ (l : List ℕ). text_words m ++ l) (part-one (TEXTS_AT + text_count m) m (omega arith))

  pub heads-merged : head_words (merged m) ≡ head_words m ++ part (HEADS_AT + statement_count m) (open_statements m) m
  heads-merged = heads-under (merged_totals m) m n ∙ part-add HEADS_AT (statement_count m) (open_statements m) m

  pub names-merged : name_words (merged m) ≡ name_words m ++ part (NAMES_AT + NAMEWORDS * statement_count m) (NAMEWORDS * open_statements m) m
  names-merged =
      let s = statement_count m in
      let e : NAMEWORDS * (s + open_statements m) ≡ NAMEWORDS * s + NAMEWORDS * open_statements m = omega arith in
      names-under (merged_totals m) m n ∙ ap (λ (k : ℕ). part NAMES_AT k m) e ∙ part-add NAMES_AT (NAMEWORDS * s) (NAMEWORDS * open_statements m) m

  pub values-merged : value_words (merged m) ≡ value_words m ++ part (VALUES_AT + value_count m) (open_values m) m
  values-merged = values-under (merged_totals m) m n ∙ part-add VALUES_AT (value_count m) (open_values m) m

  pub bytes-merged : held_bytes (merged m) ≡ held_bytes m ++ take (open_bytes m) (drop (byte_count m) (octets (part BYTES_AT BYTEWORDS m)))
  bytes-merged = bytes-under (merged_totals m) m n ∙ take-add (byte_count m) (open_bytes m) (octets (part BYTES_AT BYTEWORDS m))

-- ---- what is read

module _ (m : List ℕ) (e : sound m ≡ true) (o : opens m ≡ true) where
  S : Sound m
  S = sound-of m e

  O : SoundOpen m
  O = sound-open m e o

  abbrev held : List Statement
  held = cut_statements (head_words m) (name_words m) (value_words m) (held_bytes m)

  statements-merged : cut_statements (head_words (merged m)) (name_words (merged m)) (value_words (merged m)) (held_bytes (merged m)) ≡ held ++ open_body m
  unfolding open_body
  statements-merged =
      let n = S.sizes.words in
      let z = S.sizes in
      (λ i. cut_statements (heads-merged m n i) (names-merged m n i) (values-merged m n i) (bytes-merged m n i))
      ∙ statements-behind (head_words m) (name_words m) (value_words m) (held_bytes m) _ _ _ _ S.fitting
      (length-names m z ∙ sym (ap (λ (k : ℕ). NAMEWORDS * k) (length-heads m z))) (S.values= ∙ sym (length-values m z)) (S.bytes= ∙ sym (length-bytes m z))

  -- the open text has as many statements as its word counts
  pub length-body : length (open_body m) ≡ open_statements m
  unfolding open_body
  length-body =
      let c = statement_count-under (merged_totals m) m S.sizes.words in
      let h = O.orderly.sizes.statements in
      length_cut (part (HEADS_AT + statement_count m) (open_statements m) m) _ _ _
      ∙ length_part (HEADS_AT + statement_count m) (open_statements m) m (omega (arith, S.sizes.words, c, h))

  pub decode-merged : decode (merged m) ≡ decode m ++ (open_text m ∷ [])
  unfolding decode
  decode-merged =
      let z = S.sizes in
      let l : length held ≡ statement_count m = length_cut (head_words m) (name_words m) (value_words m) (held_bytes m) ∙ length-heads m z in
      (λ i. cut_texts (texts-merged m z.words (omega (arith, S.few)) i) (statements-merged i))
      ∙ texts-behind (text_words m) (open_word m) held (open_body m) (S.statements= ∙ sym l) (sym length-body)

  pub open-legal : Legal (decode m ++ (open_text m ∷ []))
  open-legal = subst Legal decode-merged (decode-legal (merged m) O.orderly)

  pub open-fits : FitsIn TEXTWORDS (decode m ++ (open_text m ∷ []))
  open-fits = subst (FitsIn TEXTWORDS) decode-merged (decode-fits (merged m) O.orderly)
