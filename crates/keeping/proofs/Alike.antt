-- A memory that differs from another before the statements alone, and there neither in its totals nor in the held texts' words, reads the same: every
-- area in use is the same. Assumes nothing.
use Prim.Native.Nat.{ℕ, ◌+◌, ◌*◌, ◌≤◌, ◌<◌}
use native.Mathlib.Omega.{arith}
use mathlib.Core.Path.{◌≡◌, sym, ap, subst, ◌∙◌}
use mathlib.Core.Bool.{true}
use mathlib.Core.List.{List, [], ◌∷◌, map}
use lib.Dec.{lit<}
use lib.ListN.{length, take, drop, get_or}
use lib.Seq.{get_or-take}
use Rattle.plain.specs.Bytes.{fair}
use Rattle.plain.proofs.Each.{Each}
use Rattle.words.specs.Halves.{upper, lower, sum}
use Rattle.words.specs.Over.{over, part}
use Rattle.words.proofs.Halves.{Different}
use Rattle.words.proofs.Over.{length_over, take-over, part-before, part-after}
use Rattle.octets.specs.Octets.{octets}
use Rattle.names.specs.Names.{NAMEWORDS}
use Rattle.layout.specs.Limits.{OPENWORDS, TEXTWORDS, BYTEWORDS, OPEN_AT, TEXTS_AT, HEADS_AT, NAMES_AT, VALUES_AT, BYTES_AT}
use Rattle.layout.specs.Memory.{text_count, statement_count, value_count, byte_count, text_words, head_words, name_words, value_words, held_bytes, cut_statements, cut_texts, decode}
use Rattle.layout.specs.Damage.{total_bytes}
use Rattle.layout.proofs.Sound.{Named, Fitting, Orderly}
use Rattle.entering.specs.Entries.{body_behind}

pub record Alike (x m : List ℕ) : Type 0 where
  pub long : length x ≡ length m
  pub totals : take 4 x ≡ take 4 m
  pub texts : part TEXTS_AT (text_count m) x ≡ part TEXTS_AT (text_count m) m
  pub behind : (o k : ℕ) → HEADS_AT ≤ o → part o k x ≡ part o k m

-- ---- what is read

module _ {x m : List ℕ} (a : Alike x m) where
  total= : (i : ℕ) → i < 4 → get_or x i 0 ≡ get_or m i 0
  total= i h = sym (get_or-take 4 x i 0 h) ∙ ap (λ (l : List ℕ). get_or l i 0) a.totals ∙ get_or-take 4 m i 0 h

  pub texts#= : text_count x ≡ text_count m
  texts#= = total= 0 (lit< tt)

  pub statements#= : statement_count x ≡ statement_count m
  statements#= = total= 1 (lit< tt)

  pub values#= : value_count x ≡ value_count m
  values#= = total= 2 (lit< tt)

  pub bytes#= : byte_count x ≡ byte_count m
  bytes#= = total= 3 (lit< tt)

  pub alike-texts : text_words x ≡ text_words m
  alike-texts = ap (λ (k : ℕ). part TEXTS_AT k x) texts#= ∙ a.texts

  heads= : head_words x ≡ head_words m
  heads= = ap (λ (k : ℕ). part HEADS_AT k x) statements#= ∙ a.behind HEADS_AT (statement_count m) (omega arith)

  names= : name_words x ≡ name_words m
  names= = ap (λ (k : ℕ). part NAMES_AT (NAMEWORDS * k) x) statements#= ∙ a.behind NAMES_AT (NAMEWORDS * statement_count m) (omega arith)

  values= : value_words x ≡ value_words m
  values= = ap (λ (k : ℕ). part VALUES_AT k x) values#= ∙ a.behind VALUES_AT (value_count m) (omega arith)

  strings= : octets (part BYTES_AT BYTEWORDS x) ≡ octets (part BYTES_AT BYTEWORDS m)
  strings= = ap octets (a.behind BYTES_AT BYTEWORDS (omega arith))

  bytes= : held_bytes x ≡ held_bytes m
  bytes= = λ i. take (bytes#= i) (strings= i)

  pub alike-decode : decode x ≡ decode m
  unfolding decode
  alike-decode = λ i. cut_texts (alike-texts i) (cut_statements (heads= i) (names= i) (values= i) (bytes= i))

  pub alike-body : (n k b : ℕ) → body_behind n k b x ≡ body_behind n k b m
  alike-body n k b =
      let h : part (HEADS_AT + statement_count x) n x ≡ part (HEADS_AT + statement_count m) n m =
      ap (λ (j : ℕ). part (HEADS_AT + j) n x) statements#= ∙ a.behind (HEADS_AT + statement_count m) n (omega arith) in
      let s : part (NAMES_AT + NAMEWORDS * statement_count x) (NAMEWORDS * n) x ≡ part (NAMES_AT + NAMEWORDS * statement_count m) (NAMEWORDS * n) m =
      ap (λ (j : ℕ). part (NAMES_AT + NAMEWORDS * j) (NAMEWORDS * n) x) statements#= ∙ a.behind (NAMES_AT + NAMEWORDS * statement_count m) (NAMEWORDS * n) (omega arith) in
      let v : part (VALUES_AT + value_count x) k x ≡ part (VALUES_AT + value_count m) k m =
      ap (λ (j : ℕ). part (VALUES_AT + j) k x) values#= ∙ a.behind (VALUES_AT + value_count m) k (omega arith) in
      λ i. cut_statements (h i) (s i) (v i) (take b (drop (bytes#= i) (strings= i)))

  pub alike-orderly : {most : ℕ} → Orderly most m → Orderly most x
  alike-orderly S =
      let t = texts#= in
      let s = statements#= in
      let v = values#= in
      let b = bytes#= in
      record {
        sizes = record {
          words = a.long ∙ S.sizes.words;
          texts = omega (arith, S.sizes.texts);
          statements = omega (arith, S.sizes.statements);
          values = omega (arith, S.sizes.values);
          bytes = omega (arith, S.sizes.bytes);
        };
        few = omega (arith, S.few);
        labels = subst (λ (ws : List ℕ). Different (map upper ws)) (sym alike-texts) S.labels;
        names = subst (λ (hs : List ℕ). Named hs (name_words x)) (sym heads=) (subst (Named (head_words m)) (sym names=) S.names);
        operators = subst (Each (λ h. upper h ≤ 3)) (sym heads=) S.operators;
        counts = subst (Each (λ h. 1 ≤ lower h)) (sym heads=) S.counts;
        values= = ap sum heads= ∙ S.values= ∙ sym v;
        statements= = ap sum alike-texts ∙ S.statements= ∙ sym s;
        fitting = subst (λ (hs : List ℕ). Fitting hs (value_words x)) (sym heads=) (subst (Fitting (head_words m)) (sym values=) S.fitting);
        bytes= = (λ i. total_bytes (heads= i) (values= i)) ∙ S.bytes= ∙ sym b;
        letters = subst (Each (λ c. fair c ≡ true)) (sym bytes=) S.letters;
      }

-- ---- what is written there

pub alike_then : {x y m : List ℕ} → Alike x y → Alike y m → Alike x m
alike_then {x} {y} {m} a b = record {
  long = a.long ∙ b.long;
  totals = a.totals ∙ b.totals;
  texts = subst (λ (k : ℕ). part TEXTS_AT k x ≡ part TEXTS_AT k y) (texts#= b) a.texts ∙ b.texts;
  behind = λ o k h. a.behind o k h ∙ b.behind o k h;
}

-- the words of the open text
pub alike-open : (ws m : List ℕ) → length ws ≤ OPENWORDS → Alike (over OPEN_AT ws m) m
alike-open ws m h = record {
  long = length_over OPEN_AT ws m;
  totals = take-over 4 OPEN_AT ws m (omega arith);
  texts = part-after TEXTS_AT (text_count m) OPEN_AT ws m (omega arith);
  behind = λ o k g. part-after o k OPEN_AT ws m (omega arith);
}

-- the word behind those of the held texts
pub alike-word : (w : ℕ) (m : List ℕ) → text_count m < TEXTWORDS → Alike (over (TEXTS_AT + text_count m) (w ∷ []) m) m
alike-word w m h = record {
  long = length_over (TEXTS_AT + text_count m) (w ∷ []) m;
  totals = take-over 4 (TEXTS_AT + text_count m) (w ∷ []) m (omega arith);
  texts = part-before TEXTS_AT (text_count m) (TEXTS_AT + text_count m) (w ∷ []) m (omega arith);
  behind = λ o k g. part-after o k (TEXTS_AT + text_count m) (w ∷ []) m (omega arith);
}
