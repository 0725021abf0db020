-- What an undamaged memory is, as facts: each condition of document 01 one field, of what is held; and again of what is held with the open text
-- behind it. Assumes nothing.
use mathlib.Core.Path.{◌≡◌, refl, sym, ap, ◌∙◌}
use mathlib.Core.Bool.{Bool, true, false, ◌&&◌}
use mathlib.Core.List.{List, [], ◌∷◌, map}
use Prim.Native.Nat.{ℕ, ◌/◌, ◌≤◌}
use native.Mathlib.Omega.{arith}
use borrow.Author.Tests.{eqb-true, leb-true, eq-eqb, ne_eqb, le-leb}
use lib.Dec.{eqb, leb}
use lib.ListN.{length, take, drop}
use Rattle.std.specs.Prelude.{if◌then◌else◌}
use Rattle.plain.specs.Bytes.{fair}
use Rattle.words.specs.Halves.{upper, lower, sum, all}
use Rattle.plain.proofs.Tests.{both, first_then}
use Rattle.plain.proofs.Each.{Each, each_weaken}
use Rattle.words.proofs.Each.{all-each, each_all}
use Rattle.words.proofs.Halves.{Different, distinct-different, different-distinct}
use Rattle.layout.specs.Limits.{TEXTS, STATEMENTS, VALUES, BYTES, TEXTWORDS, WORDS, LONGEST_KEPT, MOST_COUNTED}
use Rattle.names.specs.Names.{NAMEWORDS, holds_name}
use Rattle.layout.specs.Memory.{text_count, statement_count, value_count, byte_count, text_words, head_words, name_words, value_words, held_bytes, opens, merged}
use Rattle.layout.specs.Damage.{Framed, sized, limited, labelled, named, operated, summed, grouped, bounded, spaced, lettered, fits, all_named, all_fit, total_bytes, orderly, kept_length, bytes_so_far, orderly_open, sound}
use Rattle.layout.specs.Totals.{own_totals, within}
use Rattle.layout.specs.declared.front.Totals.{Totals}

-- each statement's four words hold a legal name
abbrev pub Named : (heads names : List ℕ) → Type 0
Named [] ns = Unit {0}
Named (h ∷ hs) ns = (holds_name (take NAMEWORDS ns) ≡ true) × Named hs (drop NAMEWORDS ns)

-- each statement's values fit its kind
abbrev pub Fitting : (heads values : List ℕ) → Type 0
Fitting [] vs = Unit {0}
Fitting (h ∷ hs) vs = Each (λ w. fits (upper h / 2) w ≡ true) (take (lower h) vs) × Fitting hs (drop (lower h) vs)

-- the conditions, with at most so many texts
pub record Orderly (most : ℕ) (m : List ℕ) : Type 0 where
  pub sizes : Framed m
  pub few : text_count m ≤ most
  pub labels : Different (map upper (text_words m))
  pub names : Named (head_words m) (name_words m)
  pub operators : Each (λ h. upper h ≤ 3) (head_words m)
  pub counts : Each (λ h. 1 ≤ lower h) (head_words m)
  pub values= : sum (head_words m) ≡ value_count m
  pub statements= : sum (text_words m) ≡ statement_count m
  pub fitting : Fitting (head_words m) (value_words m)
  pub bytes= : total_bytes (head_words m) (value_words m) ≡ byte_count m
  pub letters : Each (λ b. fair b ≡ true) (held_bytes m)

-- of what is held
abbrev pub Sound : List ℕ → Type 0
Sound m = Orderly TEXTS m

-- of an open text
pub record SoundOpen (m : List ℕ) : Type 0 where
  pub orderly : Orderly TEXTWORDS (merged m)
  pub kept : kept_length m ≤ LONGEST_KEPT
  pub counted : bytes_so_far m ≤ MOST_COUNTED

-- ---- the conditions in order

-- those from each condition on
abbrev pub from_bytes : List ℕ → Bool
from_bytes m = spaced m && lettered m

abbrev pub from-values : List ℕ → Bool
from-values m = bounded m && from_bytes m

abbrev pub from-groups : List ℕ → Bool
from-groups m = grouped m && from-values m

abbrev pub from-counts : List ℕ → Bool
from-counts m = summed m && from-groups m

abbrev pub from-operators : List ℕ → Bool
from-operators m = operated m && from-counts m

abbrev pub from-names : List ℕ → Bool
from-names m = named m && from-operators m

abbrev pub from-labels : List ℕ → Bool
from-labels m = labelled m && from-names m

abbrev pub from-limits : (most : ℕ) → List ℕ → Bool
from-limits most m = limited most m && from-labels m

in_order : (s l a n o c g b t f : Bool) → (if s && l then a && n && o && c && g && b && t && f else false) ≡ s && (l && (a && (n && (o && (c && (g && (b && (t && f))))))))
in_order false l a n o c g b t f = refl
in_order true false a n o c g b t f = refl
in_order true true false n o c g b t f = refl
in_order true true true false o c g b t f = refl
in_order true true true true false c g b t f = refl
in_order true true true true true false g b t f = refl
in_order true true true true true true false b t f = refl
in_order true true true true true true true false t f = refl
in_order true true true true true true true true t f = refl

pub orderly-in-order : (most : ℕ) (m : List ℕ) → orderly most m ≡ sized m && from-limits most m
unfolding orderly
orderly-in-order most m =
    in_order (sized m) (limited most m) (labelled m) (named m) (operated m) (summed m) (grouped m) (bounded m) (spaced m) (lettered m)

-- a memory of another size
pub unsized : (most : ℕ) (m : List ℕ) → (length m ≡ WORDS → ⊥) → orderly most m ≡ false
unsized most m n = orderly-in-order most m ∙ ap (λ (b : Bool). b && from-limits most m) (ne_eqb (length m) WORDS n)

-- the limits as facts
pub record Limited (most : ℕ) (t : Totals) : Type 0 where
  pub texts : t.texts ≤ most
  pub statements : t.statements ≤ STATEMENTS
  pub values : t.values ≤ VALUES
  pub bytes : t.bytes ≤ BYTES

pub limited-of : (most : ℕ) (t : Totals) → within most t ≡ true → Limited most t
limited-of most t f =
    let x = leb t.texts most in
    let s = leb t.statements STATEMENTS in
    let v = leb t.values VALUES in
    let a = both (x && s && v) (leb t.bytes BYTES) f in
    let b = both (x && s) v a.0 in
    let c = both x s b.0 in
    record { texts = leb-true _ _ c.0; statements = leb-true _ _ c.1; values = leb-true _ _ b.1; bytes = leb-true _ _ a.1 }

framed_of : {most : ℕ} {m : List ℕ} → length m ≡ WORDS → most ≤ TEXTWORDS → Limited most (own_totals m) → Framed m
framed_of e h l = record { words = e; texts = omega (arith, l.texts); statements = l.statements; values = l.values; bytes = l.bytes }

-- ---- names, from the test and back

named-of : (hs ns : List ℕ) → all_named hs ns ≡ true → Named hs ns
unfolding all_named
named-of [] ns e = tt
named-of (h ∷ hs) ns e =
    let b = first_then (holds_name (take NAMEWORDS ns)) (all_named hs (drop NAMEWORDS ns)) e in
    (b.0, named-of hs (drop NAMEWORDS ns) b.1)

of-named : (hs ns : List ℕ) → Named hs ns → all_named hs ns ≡ true
unfolding all_named
of-named [] ns f = refl
of-named (h ∷ hs) ns f = rw f.0 (of-named hs (drop NAMEWORDS ns) f.1)

-- ---- values that fit, from the test and back

fitting-of : (hs vs : List ℕ) → all_fit hs vs ≡ true → Fitting hs vs
unfolding all_fit
fitting-of [] vs e = tt
fitting-of (h ∷ hs) vs e =
    let b = first_then (all (fits (upper h / 2)) (take (lower h) vs)) (all_fit hs (drop (lower h) vs)) e in
    (all-each (fits (upper h / 2)) (take (lower h) vs) b.0, fitting-of hs (drop (lower h) vs) b.1)

of-fitting : (hs vs : List ℕ) → Fitting hs vs → all_fit hs vs ≡ true
unfolding all_fit
of-fitting [] vs f = refl
of-fitting (h ∷ hs) vs f = rw (each_all (fits (upper h / 2)) (take (lower h) vs) f.0) (of-fitting hs (drop (lower h) vs) f.1)

-- ---- the facts from the test, and back

pub orderly-of : (most : ℕ) (m : List ℕ) → most ≤ TEXTWORDS → orderly most m ≡ true → Orderly most m
orderly-of most m h e =
    let z = both (sized m) (from-limits most m) (sym (orderly-in-order most m) ∙ e) in
    let l = both (limited most m) (from-labels m) z.1 in
    let q = limited-of most (own_totals m) l.0 in
    let a = both (labelled m) (from-names m) l.1 in
    let n = both (named m) (from-operators m) a.1 in
    let o = both (operated m) (from-counts m) n.1 in
    let c = both (summed m) (from-groups m) o.1 in
    let d = both (all (λ h. leb 1 (lower h)) (head_words m)) (eqb (sum (head_words m)) (value_count m)) c.0 in
    let g = both (grouped m) (from-values m) c.1 in
    let b = both (bounded m) (from_bytes m) g.1 in
    let t = both (spaced m) (lettered m) b.1 in
    record {
      sizes = framed_of (eqb-true _ _ z.0) h q;
      few = q.texts;
      labels = distinct-different (text_words m) a.0;
      names = named-of (head_words m) (name_words m) n.0;
      operators = each_weaken _ _ (λ h f. leb-true (upper h) 3 f) (head_words m) (all-each (λ h. leb (upper h) 3) (head_words m) o.0);
      counts = each_weaken _ _ (λ h f. leb-true 1 (lower h) f) (head_words m) (all-each (λ h. leb 1 (lower h)) (head_words m) d.0);
      values= = eqb-true _ _ d.1;
      statements= = eqb-true _ _ g.0;
      fitting = fitting-of (head_words m) (value_words m) b.0;
      bytes= = eqb-true _ _ t.0;
      letters = all-each fair (held_bytes m) t.1;
    }

pub of-orderly : (most : ℕ) (m : List ℕ) → Orderly most m → orderly most m ≡ true
of-orderly most m S =
    let z = S.sizes in
    let s : sized m ≡ true = eq-eqb (length m) WORDS z.words in
    let x : leb (text_count m) most ≡ true = le-leb _ _ S.few in
    let y : leb (statement_count m) STATEMENTS ≡ true = le-leb _ _ z.statements in
    let v : leb (value_count m) VALUES ≡ true = le-leb _ _ z.values in
    let k : leb (byte_count m) BYTES ≡ true = le-leb _ _ z.bytes in
    let a : labelled m ≡ true = different-distinct (text_words m) S.labels in
    let n : named m ≡ true = of-named (head_words m) (name_words m) S.names in
    let o : operated m ≡ true = each_all (λ h. leb (upper h) 3) (head_words m) (each_weaken _ _ (λ h f. le-leb (upper h) 3 f) (head_words m) S.operators) in
    let c : all (λ h. leb 1 (lower h)) (head_words m) ≡ true = each_all (λ h. leb 1 (lower h)) (head_words m) (each_weaken _ _ (λ h f. le-leb 1 (lower h) f) (head_words m) S.counts) in
    let d : eqb (sum (head_words m)) (value_count m) ≡ true = eq-eqb _ _ S.values= in
    let g : grouped m ≡ true = eq-eqb _ _ S.statements= in
    let b : bounded m ≡ true = of-fitting (head_words m) (value_words m) S.fitting in
    let t : spaced m ≡ true = eq-eqb _ _ S.bytes= in
    let l : lettered m ≡ true = each_all fair (held_bytes m) S.letters in
    orderly-in-order most m ∙ (λ i. s i && (x i && y i && v i && k i && (a i && (n i && (o i && (c i && d i && (g i && (b i && (t i && l i)))))))))

-- ---- what is held, and the open text

held_of : (m : List ℕ) → sound m ≡ true → (orderly TEXTS m ≡ true) × ((if opens m then orderly_open m else true) ≡ true)
unfolding sound
held_of m e = both (orderly TEXTS m) (if opens m then orderly_open m else true) e

pub sound-of : (m : List ℕ) → sound m ≡ true → Sound m
sound-of m e = orderly-of TEXTS m (omega arith) (held_of m e).0

-- what reading the areas requires
pub framed : (m : List ℕ) → sound m ≡ true → Framed m
framed m e = (sound-of m e).sizes

pub sound-open : (m : List ℕ) → sound m ≡ true → opens m ≡ true → SoundOpen m
sound-open m e o =
    let x = orderly TEXTWORDS (merged m) in
    let k = leb (kept_length m) LONGEST_KEPT in
    let f : orderly_open m ≡ true = rw o at (held_of m e).1 in
    let a = both (x && k) (leb (bytes_so_far m) MOST_COUNTED) f in
    let b = both x k a.0 in
    record { orderly = orderly-of TEXTWORDS (merged m) (omega arith) b.0; kept = leb-true _ _ b.1; counted = leb-true _ _ a.1 }

-- no text is open
pub of-sound : (m : List ℕ) → Sound m → opens m ≡ false → sound m ≡ true
unfolding sound
of-sound m S o = rw (of-orderly TEXTS m S, o)

pub of-sound-open : (m : List ℕ) → Sound m → opens m ≡ true → SoundOpen m → sound m ≡ true
unfolding sound
of-sound-open m S o T =
    rw (of-orderly TEXTS m S, o, of-orderly TEXTWORDS (merged m) T.orderly, le-leb (kept_length m) LONGEST_KEPT T.kept, le-leb (bytes_so_far m) MOST_COUNTED T.counted)
