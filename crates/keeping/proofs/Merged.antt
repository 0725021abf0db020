-- A memory is undamaged with a text open exactly where what is held is, the words behind it keep the same conditions, and the text's label is none of
-- the held ones: with the open text's counts in the totals each area is the held words and then the text's. Assumes nothing.
use Prim.Native.Nat.{ℕ, ◌+◌, ◌*◌, ◌≤◌}
use native.Mathlib.Omega.{arith}
use mathlib.Core.Path.{◌≡◌, sym, ap, subst, ◌∙◌}
use mathlib.Core.Bool.{true}
use mathlib.Core.List.{List, [], ◌∷◌, ◌++◌, map}
use lib.ListN.{length}
use Rattle.plain.specs.Bytes.{fair}
use Rattle.plain.proofs.Each.{Each, each_append, each_right, each_map}
use Rattle.words.specs.Halves.{upper, lower, sum}
use Rattle.words.proofs.Halves.{Different, different-append}
use Rattle.names.specs.Names.{NAMEWORDS}
use Rattle.layout.specs.Limits.{TEXTS, TEXTWORDS, WORDS}
use Rattle.layout.specs.Memory.{value_count, byte_count, text_words, head_words, name_words, value_words, held_bytes, open_word, open_label, open_statements, open_values, open_bytes, merged}
use Rattle.layout.specs.Damage.{total_bytes}
use Rattle.layout.specs.Totals.{merged_totals}
use Rattle.layout.proofs.Areas.{length-heads, length-names, length-values, length-under, text_count-under, statement_count-under, value_count-under, byte_count-under}
use Rattle.layout.proofs.Sound.{Named, Fitting, Orderly}
use Rattle.keeping.proofs.Appended.{named-both, named-last, sum-append, fitting-both, fitting-last, bytes-append, different-last, map_last}
use Rattle.behind.proofs.Merged.{texts-merged, heads-merged, names-merged, values-merged, bytes-merged}
use Rattle.keeping.proofs.Behind.{heads_behind, names_behind, values_behind, bytes_behind, Behind}

module _ (m : List ℕ) (S : Orderly TEXTS m) where
  e : length m ≡ WORDS
  e = S.sizes.words

  abbrev n : ℕ
  n = open_statements m

  abbrev k : ℕ
  k = open_values m

  abbrev b : ℕ
  b = open_bytes m

  texts+ : text_words (merged m) ≡ text_words m ++ (open_word m ∷ [])
  texts+ = texts-merged m e (omega (arith, S.few))

  heads+ : head_words (merged m) ≡ head_words m ++ heads_behind m n
  heads+ = heads-merged m e

  names+ : name_words (merged m) ≡ name_words m ++ names_behind m n
  names+ = names-merged m e

  values+ : value_words (merged m) ≡ value_words m ++ values_behind m k
  values+ = values-merged m e

  bytes+ : held_bytes (merged m) ≡ held_bytes m ++ bytes_behind m b
  bytes+ = bytes-merged m e

  names-long : length (name_words m) ≡ NAMEWORDS * length (head_words m)
  names-long = length-names m S.sizes ∙ sym (ap (λ (j : ℕ). NAMEWORDS * j) (length-heads m S.sizes))

  values-long : sum (head_words m) ≡ length (value_words m)
  values-long = S.values= ∙ sym (length-values m S.sizes)

  labels+ : map upper (text_words (merged m)) ≡ map upper (text_words m) ++ (open_label m ∷ [])
  labels+ = ap (map upper) texts+ ∙ map_last upper (text_words m) (open_word m)

  sum+ : sum (head_words (merged m)) ≡ value_count m + sum (heads_behind m n)
  sum+ = ap sum heads+ ∙ omega (arith, sum-append (head_words m) (heads_behind m n), S.values=)

  bytes#+ : total_bytes (head_words (merged m)) (value_words (merged m)) ≡ byte_count m + total_bytes (heads_behind m n) (values_behind m k)
  bytes#+ =
      (λ i. total_bytes (heads+ i) (values+ i))
      ∙ omega (arith, bytes-append (heads_behind m n) (values_behind m k) (head_words m) (value_words m) values-long, S.bytes=)

  -- from both to the text's
  module _ (O : Orderly TEXTWORDS (merged m)) where
    pub merged-behind : Behind m n k b
    merged-behind =
        let u = merged_totals m in
        let s# = statement_count-under u m e in
        let v# = value_count-under u m e in
        let b# = byte_count-under u m e in
        record {
          few = omega (arith, O.sizes.statements);
          small = omega (arith, O.sizes.values);
          brief = omega (arith, O.sizes.bytes);
          names =
              named-last (heads_behind m n) (names_behind m n) (head_words m) (name_words m) names-long
              (subst (λ (l : List ℕ). Named l (name_words m ++ names_behind m n)) heads+ (subst (Named (head_words (merged m))) names+ O.names));
          operators = each_right (λ h. upper h ≤ 3) (head_words m) (heads_behind m n) (subst (Each (λ h. upper h ≤ 3)) heads+ O.operators);
          counts = each_right (λ h. 1 ≤ lower h) (head_words m) (heads_behind m n) (subst (Each (λ h. 1 ≤ lower h)) heads+ O.counts);
          values= = omega (arith, sum+, O.values=);
          fitting =
              fitting-last (heads_behind m n) (values_behind m k) (head_words m) (value_words m) values-long
              (subst (λ (l : List ℕ). Fitting l (value_words m ++ values_behind m k)) heads+ (subst (Fitting (head_words (merged m))) values+ O.fitting));
          bytes= = omega (arith, bytes#+, O.bytes=);
          letters = each_right (λ c. fair c ≡ true) (held_bytes m) (bytes_behind m b) (subst (Each (λ c. fair c ≡ true)) bytes+ O.letters);
        }

    pub merged-label : Each (λ w. upper w ≡ open_label m → ⊥) (text_words m)
    merged-label = different-last (text_words m) (open_label m) (subst Different labels+ O.labels)

  -- and back
  pub behind-merged : Behind m n k b → Each (λ w. upper w ≡ open_label m → ⊥) (text_words m) → Orderly TEXTWORDS (merged m)
  unfolding sum
  behind-merged B f =
      let u = merged_totals m in
      let t# = text_count-under u m e in
      let s# = statement_count-under u m e in
      let v# = value_count-under u m e in
      let b# = byte_count-under u m e in
      record {
        sizes = record {
          words = length-under u m e;
          texts = omega (arith, S.few);
          statements = omega (arith, B.few);
          values = omega (arith, B.small);
          bytes = omega (arith, B.brief);
        };
        few = omega (arith, S.few);
        labels = subst Different (sym labels+) (different-append (map upper (text_words m)) (open_label m) S.labels (each_map (λ l. l ≡ open_label m → ⊥) upper (text_words m) f));
        names =
            subst (Named (head_words (merged m))) (sym names+)
            (subst (λ (l : List ℕ). Named l (name_words m ++ names_behind m n)) (sym heads+)
            (named-both (heads_behind m n) (names_behind m n) (head_words m) (name_words m) names-long S.names B.names));
        operators = subst (Each (λ h. upper h ≤ 3)) (sym heads+) (each_append (λ h. upper h ≤ 3) (head_words m) (heads_behind m n) S.operators B.operators);
        counts = subst (Each (λ h. 1 ≤ lower h)) (sym heads+) (each_append (λ h. 1 ≤ lower h) (head_words m) (heads_behind m n) S.counts B.counts);
        values= = omega (arith, sum+, B.values=);
        statements= = ap sum texts+ ∙ omega (arith, sum-append (text_words m) (open_word m ∷ []), S.statements=, one);
        fitting =
            subst (Fitting (head_words (merged m))) (sym values+)
            (subst (λ (l : List ℕ). Fitting l (value_words m ++ values_behind m k)) (sym heads+)
            (fitting-both (heads_behind m n) (values_behind m k) (head_words m) (value_words m) values-long S.fitting B.fitting));
        bytes= = omega (arith, bytes#+, B.bytes=);
        letters = subst (Each (λ c. fair c ≡ true)) (sym bytes+) (each_append (λ c. fair c ≡ true) (held_bytes m) (bytes_behind m b) S.letters B.letters);
      }
    where
      one : sum (open_word m ∷ []) ≡ n
      one = omega arith
