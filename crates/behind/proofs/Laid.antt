-- A memory in which a state's columns stand, and a text's behind them, holds the state with the text open: what is held and both together are read
-- back. Assumes nothing.
use mathlib.Core.Path.{◌≡◌, sym, ap, subst, ◌∙◌}
use mathlib.Core.Bool.{true}
use mathlib.Core.List.{List, [], ◌∷◌, ◌++◌}
use Prim.Native.Nat.{ℕ, ◌+◌, ◌≤◌, ◌<◌}
use native.Mathlib.Omega.{arith}
use lib.ListN.{length, get_or, drop, length-append}
use lib.Seq.{get_or-take, get_or-drop}
use lib.Dec.{lit<}
use Rattle.plain.proofs.Each.{Each}
use Rattle.statement.specs.Statements.{Statement}
use Rattle.words.specs.Halves.{lower}
use Rattle.words.specs.Over.{over, part}
use Rattle.words.proofs.Each.{WORD, Words}
use Rattle.words.proofs.Halves.{lower-joined}
use Rattle.words.proofs.Over.{part-after, each_over}
use Rattle.octets.specs.Octets.{octets}
use Rattle.layout.specs.State.{Text, Pool, program, flat, values_of, bytes_of, values, string_bytes}
use Rattle.layout.specs.Limits.{TEXTS, TEXTWORDS, WORDS, BYTEWORDS, TEXTS_AT, HEADS_AT, BYTES_AT, LONGEST_KEPT, MOST_COUNTED}
use Rattle.layout.specs.Memory.{text_count, decode, opens, open_word, open_statements, open_values, open_bytes, merged, open_text, text_word}
use Rattle.layout.specs.Damage.{kept_length, bytes_so_far, sound}
use Rattle.layout.specs.Totals.{merged_totals}
use Rattle.layout.specs.declared.front.Totals.{Totals}
use Rattle.layout.proofs.Areas.{length-under, text_count-under, statement_count-under, value_count-under, byte_count-under}
use Rattle.layout.proofs.Columns.{At, at_left, at_right, Column, laid, Spaced, Stands, stands-over, flat_append}
use Rattle.layout.proofs.Holds.{Holds, per_text, per_statement, spaced-texts, spaced-statements, length-laid-texts, Standing, Told, holds_of, holds_texts, holds-statements, holds-bytes, holds-decode, decode-holds, holds-orderly}
use Rattle.layout.proofs.Legal.{FitsIn, Fair, Legal, program-last, legal-add}
use Rattle.layout.proofs.Sound.{Sound, SoundOpen, sound-of, sound-open, of-sound-open}
use Rattle.behind.proofs.Merged.{decode-merged, open-fits}

abbrev totals_of : Totals → List ℕ
totals_of t = t.texts ∷ t.statements ∷ t.values ∷ t.bytes ∷ []

-- ---- columns

stands-left : {A : Type 0} (cs : List (Column A)) (xs ys : List A) (m : List ℕ) → Stands cs (xs ++ ys) m → Stands cs xs m
stands-left [] xs ys m s = tt
stands-left (c ∷ cs) xs ys m s =
    (at_left c.base (laid c xs) (laid c ys) m (subst (λ (l : List ℕ). At c.base l m) (flat_append c.lay xs ys) s.0), stands-left cs xs ys m s.1)

-- what stands behind the totals stands whatever they are
stands-under : {A : Type 0} (cs : List (Column A)) (xs : List A) (m : List ℕ) (lo at : ℕ) (ys : List ℕ) → Spaced lo cs → at + length ys ≤ lo → Stands cs xs (over at ys m) → Stands cs xs m
stands-under [] xs m lo at ys p h s = tt
stands-under (c ∷ cs) xs m lo at ys p h s =
    (sym (part-after c.base (length (laid c xs)) at ys m (omega (arith, p.0))) ∙ s.0, stands-under cs xs m c.end at ys p.2 (omega (arith, p.0, p.1)) s.1)

-- states with one last text are equal where their last texts are
same-last : (s : Pool) (x y : Text) → s ++ (x ∷ []) ≡ s ++ (y ∷ []) → x ≡ y
same-last [] x y e = cc
same-last (z ∷ s) x y e = let f : s ++ (x ∷ []) ≡ s ++ (y ∷ []) = cc in same-last s x y f

-- ---- an open text's columns behind a state's

pub record Laid (s : Pool) (t : Text) (m : List ℕ) : Type 0 where
  pub words : length m ≡ WORDS
  pub told : Told s m
  pub values : open_values m ≡ length (flat values_of t.body)
  pub bytes : open_bytes m ≡ length (flat bytes_of t.body)
  pub standing : Standing (s ++ (t ∷ [])) m
  pub fits : FitsIn TEXTWORDS (s ++ (t ∷ []))

module _ (s : Pool) (t : Text) where
  abbrev both : Pool
  both = s ++ (t ∷ [])

  pub values-both : values both ≡ values s ++ flat values_of t.body
  values-both = ap (flat values_of) (program-last s t) ∙ flat_append values_of (program s) t.body

  pub bytes-both : string_bytes both ≡ string_bytes s ++ flat bytes_of t.body
  bytes-both = ap (flat bytes_of) (program-last s t) ∙ flat_append bytes_of (program s) t.body

  module _ (m : List ℕ) (L : Laid s t m) where
    held_fits : FitsIn TEXTWORDS s
    held_fits = record {
      texts = omega (arith, length-append s (t ∷ []), L.fits.texts);
      statements = omega (arith, ap length (program-last s t), length-append (program s) t.body, L.fits.statements);
      values = omega (arith, ap length values-both, length-append (values s) (flat values_of t.body), L.fits.values);
      bytes = omega (arith, ap length bytes-both, length-append (string_bytes s) (flat bytes_of t.body), L.fits.bytes);
    }

    pub laid-holds : Holds m s
    laid-holds =
        let p = octets (part BYTES_AT BYTEWORDS m) in
        holds_of s m L.words L.told (record {
          texts = stands-left per_text s (t ∷ []) m L.standing.texts;
          statements = stands-left per_statement (program s) t.body m (subst (λ (ss : List Statement). Stands per_statement ss m) (program-last s t) L.standing.statements);
          bytes = at_left 0 (string_bytes s) (flat bytes_of t.body) p (subst (λ (l : List ℕ). At 0 l p) bytes-both L.standing.bytes);
        }) held_fits

    -- its word stands behind those of the held texts
    pub laid_word : open_word m ≡ text_word t
    unfolding flat
    laid_word =
        let x = flat (λ u. text_word u ∷ []) s in
        let a : At (TEXTS_AT + length x) (text_word t ∷ []) m =
        at_right TEXTS_AT x (text_word t ∷ []) m (subst (λ (l : List ℕ). At TEXTS_AT l m) (flat_append (λ u. text_word u ∷ []) s (t ∷ [])) L.standing.texts.0) in
        let k : TEXTS_AT + text_count m ≡ TEXTS_AT + length x + 0 = omega (arith, length-laid-texts s, L.told.texts) in
        ap (λ (i : ℕ). get_or m i 0) k ∙ sym (get_or-drop (TEXTS_AT + length x) m 0 0) ∙ sym (get_or-take 1 (drop (TEXTS_AT + length x) m) 0 0 (lit< tt)) ∙ ap (λ (l : List ℕ). get_or l 0 0) a

    laid-count : open_statements m ≡ length t.body
    laid-count =
        ap lower laid_word ∙ lower-joined t.label (length t.body) (omega (arith, ap length (program-last s t), length-append (program s) t.body, L.fits.statements))

    -- with the open text's counts in its totals it holds both
    pub laid-merged : Holds (merged m) both
    laid-merged =
        let u = merged_totals m in
        let n = L.words in
        let ys = totals_of u in
        holds_of both (merged m) (length-under u m n)
        (record {
          texts = omega (arith, text_count-under u m n, L.told.texts, length-append s (t ∷ []));
          statements = omega (arith, statement_count-under u m n, L.told.statements, laid-count, ap length (program-last s t), length-append (program s) t.body);
          values = omega (arith, value_count-under u m n, L.told.values, L.values, ap length values-both, length-append (values s) (flat values_of t.body));
          bytes = omega (arith, byte_count-under u m n, L.told.bytes, L.bytes, ap length bytes-both, length-append (string_bytes s) (flat bytes_of t.body));
        })
        (record {
          texts = stands-over per_text both m TEXTS_AT 0 ys spaced-texts (omega arith) L.standing.texts;
          statements = stands-over per_statement (program both) m HEADS_AT 0 ys spaced-statements (omega arith) L.standing.statements;
          bytes = ap (λ (l : List ℕ). part 0 (length (string_bytes both)) (octets l)) (part-after BYTES_AT BYTEWORDS 0 ys m (omega arith)) ∙ L.standing.bytes;
        })
        L.fits

    module _ (g : Legal s) (f : Each (λ x. x.label ≡ t.label → ⊥) s) (b : Each Fair t.body) where
      legal-both : Legal both
      legal-both = legal-add s t g f b

      pub laid-sound : length s ≤ TEXTS → opens m ≡ true → kept_length m ≤ LONGEST_KEPT → bytes_so_far m ≤ MOST_COUNTED → sound m ≡ true
      laid-sound h o k c =
          of-sound-open m (holds-orderly m s laid-holds TEXTS h g) o
          (record { orderly = holds-orderly (merged m) both laid-merged TEXTWORDS L.fits.texts legal-both; kept = k; counted = c })

      pub laid-decode : decode m ≡ s
      laid-decode = decode-holds m s laid-holds g.statements

      pub laid-text : sound m ≡ true → opens m ≡ true → open_text m ≡ t
      laid-text e o =
          same-last s (open_text m) t
          (sym (ap (λ (x : Pool). x ++ (open_text m ∷ [])) laid-decode) ∙ sym (decode-merged m e o) ∙ decode-holds (merged m) both laid-merged legal-both.statements)

-- ---- so it is in every sound memory with an open text

module _ (m : List ℕ) (e : sound m ≡ true) (o : opens m ≡ true) (w : Words m) where
  S : Sound m
  S = sound-of m e

  O : SoundOpen m
  O = sound-open m e o

  words-merged : Words (merged m)
  words-merged =
      let u = merged_totals m in
      let n = S.sizes.words in
      let z = O.orderly.sizes in
      each_over (λ x. x < WORD) 0 (totals_of u) m
      (omega (arith, S.few), (omega (arith, statement_count-under u m n, z.statements), (omega (arith, value_count-under u m n, z.values), (omega (arith, byte_count-under u m n, z.bytes), tt)))) w

  pub holds-both : Holds (merged m) (decode m ++ (open_text m ∷ []))
  holds-both = subst (Holds (merged m)) (decode-merged m e o) (holds-decode (merged m) O.orderly words-merged)

  pub open-laid : Laid (decode m) (open_text m) m
  open-laid =
      let s = decode m in
      let t = open_text m in
      let u = merged_totals m in
      let n = S.sizes.words in
      let h = holds-decode m S w in
      let H = holds-both in
      record {
        words = n;
        told = record { texts = h.text_count=; statements = h.statement_count=; values = h.value_count=; bytes = h.byte_count= };
        values = omega (arith, value_count-under u m n, H.value_count=, h.value_count=, ap length (values-both s t), length-append (values s) (flat values_of t.body));
        bytes = omega (arith, byte_count-under u m n, H.byte_count=, h.byte_count=, ap length (bytes-both s t), length-append (string_bytes s) (flat bytes_of t.body));
        standing = record {
          texts = stands-under per_text (s ++ (t ∷ [])) m TEXTS_AT 0 (totals_of u) spaced-texts (omega arith) (holds_texts (merged m) (s ++ (t ∷ [])) H);
          statements = stands-under per_statement (program (s ++ (t ∷ []))) m HEADS_AT 0 (totals_of u) spaced-statements (omega arith) (holds-statements (merged m) (s ++ (t ∷ [])) H);
          bytes = sym (ap (λ (l : List ℕ). part 0 (length (string_bytes (s ++ (t ∷ [])))) (octets l)) (part-after BYTES_AT BYTEWORDS 0 (totals_of u) m (omega arith))) ∙ holds-bytes (merged m) (s ++ (t ∷ [])) H;
        };
        fits = open-fits m e o;
      }
