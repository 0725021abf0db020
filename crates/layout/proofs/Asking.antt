-- The conditions asked of the areas' words by themselves: of a memory under such totals they are all that there is to ask. Assumes nothing.
use mathlib.Core.Path.{◌≡◌, refl, sym, ap, ◌∙◌}
use mathlib.Core.Bool.{Bool, true, false, ◌&&◌}
use mathlib.Core.List.{List}
use Prim.Native.Nat.{ℕ, ◌*◌, ◌≤◌, ◌<◌}
use native.Mathlib.Omega.{arith}
use borrow.Author.Tests.{eqb-true, eq-eqb, le-leb, lt-leb}
use lib.Dec.{eqb, leb}
use lib.ListN.{length, take}
use Rattle.plain.specs.Bytes.{fair}
use Rattle.plain.proofs.Tests.{both, is_false}
use Rattle.words.specs.Over.{part}
use Rattle.words.specs.Halves.{HALF, upper, lower, sum, distinct, all}
use Rattle.octets.specs.Octets.{octets}
use Rattle.names.specs.Names.{NAMEWORDS}
use Rattle.layout.specs.Limits.{STATEMENTS, VALUES, BYTES, TEXTWORDS, WORDS, LONGEST_KEPT, MOST_COUNTED, BYTEWORDS, TEXTS_AT, HEADS_AT, NAMES_AT, VALUES_AT, BYTES_AT}
use Rattle.layout.specs.Memory.{text_words, head_words, name_words, value_words, open_values, open_bytes, merged}
use Rattle.layout.specs.Damage.{Counted, sized, all_named, all_fit, total_bytes, orderly, kept_length, bytes_so_far, orderly_open}
use Rattle.layout.specs.Totals.{under, merged_totals, within, sums, names_asked, counts_asked, Countable, Sizes}
use Rattle.layout.specs.declared.front.Totals.{Totals}
use Rattle.layout.proofs.Areas.{length_part, length-under, text_count-under, statement_count-under, value_count-under, byte_count-under, texts-under, heads-under, names-under, values-under, bytes-under}
use Rattle.layout.proofs.Sound.{Limited, limited-of, orderly-in-order, from-labels}

none_last : (x : Bool) → x && false ≡ false
none_last true = refl
none_last false = refl

none_left : (x y : Bool) → x && false && y ≡ false
none_left true y = refl
none_left false y = refl

all_left : (x : Bool) → x && true && true ≡ x
all_left true = refl
all_left false = refl

-- ---- the limits

module _ (most : ℕ) (t : Totals) (m : List ℕ) (n : length m ≡ WORDS) where
  limits-asked : orderly most (under t m) ≡ within most t && from-labels (under t m)
  limits-asked =
      let s : sized (under t m) ≡ true = eq-eqb (length (under t m)) WORDS (length-under t m n) in
      let x = text_count-under t m n in
      let y = statement_count-under t m n in
      let v = value_count-under t m n in
      let b = byte_count-under t m n in
      orderly-in-order most (under t m) ∙ (λ i. s i && ((leb (x i) most && leb (y i) STATEMENTS && leb (v i) VALUES && leb (b i) BYTES) && from-labels (under t m)))

  pub past-limits : within most t ≡ true → orderly most (under t m) ≡ from-labels (under t m)
  past-limits e = limits-asked ∙ ap (λ (b : Bool). b && from-labels (under t m)) e

  pub over-limits : within most t ≡ false → orderly most (under t m) ≡ false
  over-limits e = limits-asked ∙ ap (λ (b : Bool). b && from-labels (under t m)) e

-- ---- the areas' words

pub record Slices (most : ℕ) (t : Totals) (m texts heads names values : List ℕ) : Type 0 where
  pub sizes : Sizes most m
  pub limits : within most t ≡ true
  pub texts= : texts ≡ part TEXTS_AT t.texts m
  pub heads= : heads ≡ part HEADS_AT t.statements m
  pub names= : names ≡ part NAMES_AT (NAMEWORDS * t.statements) m
  pub values= : values ≡ part VALUES_AT t.values m

-- what is left to ask from each condition on
module _ (t : Totals) (m texts heads names values : List ℕ) where
  abbrev pub ask-bytes : Bool
  ask-bytes = all fair (take t.bytes (octets (part BYTES_AT BYTEWORDS m)))

  abbrev pub ask-lengths : Bool
  ask-lengths = eqb (total_bytes heads values) t.bytes && ask-bytes

  abbrev pub ask-values : Bool
  ask-values = all_fit heads values && ask-lengths

  abbrev pub ask-groups : Bool
  ask-groups = eqb (sum texts) t.statements && ask-values

  abbrev pub ask-counts : Bool
  ask-counts = sums heads t.values && ask-groups

  abbrev pub ask-operators : Bool
  ask-operators = all (λ h. leb (upper h) 3) heads && ask-counts

  abbrev pub ask-names : Bool
  ask-names = all_named heads names && ask-operators

  abbrev pub ask-labels : Bool
  ask-labels = distinct texts && ask-names

module _ {most : ℕ} {t : Totals} {m texts heads names values : List ℕ} (S : Slices most t m texts heads names values) where
  L : Limited most t
  L = limited-of most t S.limits

  few-texts : length texts ≤ HALF
  few-texts = omega (arith, ap length S.texts=, length_part TEXTS_AT t.texts m (omega (arith, L.texts, S.sizes.words, S.sizes.few)), L.texts, S.sizes.few)

  length-heads : length heads ≡ t.statements
  length-heads = ap length S.heads= ∙ length_part HEADS_AT t.statements m (omega (arith, L.statements, S.sizes.words))

  few-heads : length heads ≤ HALF
  few-heads = omega (arith, length-heads, L.statements)

  pub enough-names : NAMEWORDS * length heads ≤ length names
  enough-names = omega (arith, length-heads, ap length S.names=, length_part NAMES_AT (NAMEWORDS * t.statements) m (omega (arith, L.statements, S.sizes.words)))

  pub countable : Countable texts heads values t
  countable =
      record {
        texts = few-texts;
        heads = few-heads;
        values = ap length S.values= ∙ length_part VALUES_AT t.values m (omega (arith, L.values, S.sizes.words));
        few = omega (arith, L.values);
      }

  pub all_asked : orderly most (under t m) ≡ ask-labels t m texts heads names values
  all_asked =
      let n = S.sizes.words in
      let a : text_words (under t m) ≡ texts = texts-under t m n ∙ sym S.texts= in
      let h : head_words (under t m) ≡ heads = heads-under t m n ∙ sym S.heads= in
      let x : name_words (under t m) ≡ names = names-under t m n ∙ sym S.names= in
      let v : value_words (under t m) ≡ values = values-under t m n ∙ sym S.values= in
      let b = bytes-under t m n in
      past-limits most t m n S.limits
      ∙ (λ i. distinct (a i) && (all_named (h i) (x i) && (all (λ w. leb (upper w) 3) (h i) && (sums (h i) (value_count-under t m n i)
      && (eqb (sum (a i)) (statement_count-under t m n i) && (all_fit (h i) (v i) && (eqb (total_bytes (h i) (v i)) (byte_count-under t m n i) && all fair (b i))))))))

-- values that are counted
pub counted : {ws hs vs : List ℕ} {t : Totals} → Countable ws hs vs t → sums hs t.values ≡ true → Counted hs vs
counted {hs = hs} {t = t} C e =
    let f : sum hs ≡ t.values = eqb-true _ _ (both (all (λ h. leb 1 (lower h)) hs) (eqb (sum hs) t.values) e).1 in
    record { within = omega (arith, C.values); few = omega (arith, C.values, C.few) }

-- the same in the order of the code: labels and names, then the counts, then the bytes
grouped : (a b c d e f g h : Bool) → a && (b && (c && (d && (e && (f && (g && h)))))) ≡ (a && b && c) && ((d && (e && f && g)) && h)
grouped false b c d e f g h = refl
grouped true false c d e f g h = refl
grouped true true false d e f g h = refl
grouped true true true false e f g h = refl
grouped true true true true false f g h = refl
grouped true true true true true false g h = refl
grouped true true true true true true g h = refl

module _ {most : ℕ} {t : Totals} {m texts heads names values : List ℕ} (S : Slices most t m texts heads names values) where
  pub in_code : orderly most (under t m) ≡ names_asked texts heads names && (counts_asked texts heads values t && ask-bytes t m texts heads names values)
  in_code =
      all_asked S
      ∙ grouped (distinct texts) (all_named heads names) (all (λ h. leb (upper h) 3) heads) (sums heads t.values) (eqb (sum texts) t.statements) (all_fit heads values) (eqb (total_bytes heads values) t.bytes)
      (ask-bytes t m texts heads names values)

-- ---- the open text

module _ (m : List ℕ) where
  kept-asked : (x k b : Bool) → orderly TEXTWORDS (merged m) ≡ x → leb (kept_length m) LONGEST_KEPT ≡ k → leb (bytes_so_far m) MOST_COUNTED ≡ b → orderly_open m ≡ x && k && b
  kept-asked x k b e f g = λ i. e i && f i && g i

  pub kept-over : LONGEST_KEPT < kept_length m → orderly_open m ≡ false
  kept-over h = kept-asked _ false _ refl (lt-leb _ _ h) refl ∙ none_left (orderly TEXTWORDS (merged m)) (leb (bytes_so_far m) MOST_COUNTED)

  pub counted-over : MOST_COUNTED < bytes_so_far m → orderly_open m ≡ false
  counted-over h = kept-asked _ _ false refl refl (lt-leb _ _ h) ∙ none_last (orderly TEXTWORDS (merged m) && leb (kept_length m) LONGEST_KEPT)

  pub all-kept : kept_length m ≤ LONGEST_KEPT → bytes_so_far m ≤ MOST_COUNTED → orderly_open m ≡ orderly TEXTWORDS (merged m)
  all-kept h k = kept-asked _ true true refl (le-leb _ _ h) (le-leb _ _ k) ∙ all_left (orderly TEXTWORDS (merged m))

  module _ (n : length m ≡ WORDS) where
    -- counts that are over the limits by themselves
    totals-over : (Limited TEXTWORDS (merged_totals m) → ⊥) → orderly_open m ≡ false
    totals-over f =
        let e : within TEXTWORDS (merged_totals m) ≡ false = is_false (within TEXTWORDS (merged_totals m)) (λ w. f (limited-of TEXTWORDS (merged_totals m) w)) in
        kept-asked false _ _ (over-limits TEXTWORDS (merged_totals m) m n e) refl refl

    pub values-over : VALUES < open_values m → orderly_open m ≡ false
    values-over h = totals-over (λ l. omega (arith, l.values))

    pub bytes-over : BYTES < open_bytes m → orderly_open m ≡ false
    bytes-over h = totals-over (λ l. omega (arith, l.bytes))
