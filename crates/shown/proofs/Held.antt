-- The names that the listing reads of an undamaged memory: they are the statements', and the words at each place hold a legal one.
-- Assumes nothing.
use mathlib.Core.Path.{◌≡◌, refl, sym, ap, subst, ◌∙◌}
use mathlib.Core.Bool.{true}
use mathlib.Core.List.{List, [], ◌∷◌, map}
use Prim.Native.Nat.{ℕ, zero, suc, ◌/◌, ◌<◌}
use native.Mathlib.Nat.{not-suc-le-zero, le_of_suc-le-suc}
use native.Mathlib.Omega.{arith}
use lib.ListN.{length, take, drop, get_or}
use Rattle.statement.specs.Statements.{Statement}
use Rattle.words.specs.Halves.{upper, lower}
use Rattle.names.specs.Names.{NAMEWORDS, holds_name, unpacked}
use Rattle.names.proofs.Names.{legal-unpacked}
use Rattle.layout.specs.State.{program}
use Rattle.layout.specs.Memory.{head_words, name_words, value_words, held_bytes, statement_count, bytes_taken, cut_statements, decode}
use Rattle.layout.proofs.Areas.{length-heads, length-names}
use Rattle.layout.proofs.Sound.{Named, Sound}
use Rattle.layout.proofs.Holds.{program-decode}
use Rattle.order.specs.Order.{inserted, names}
use Rattle.order.specs.Places.{Legible, Places, name_count, words_at, name_at, cut_names, ordered}
use Rattle.order.proofs.Named.{length-words_at, words_at-next, length-names_at, name-held, place-held}
use Rattle.shown.specs.Shown.{names_in}
use Rattle.shown.specs.Shows.{Holding, listed}

named-at : (hs ns : List ℕ) (k : ℕ) → k < length hs → Named hs ns → holds_name (words_at ns k) ≡ true
named-at [] ns k h f = absurd (not-suc-le-zero h)
named-at (x ∷ hs) ns zero h f = f.0
named-at (x ∷ hs) ns (suc k) h f =
    sym (ap holds_name (words_at-next ns k)) ∙ named-at hs (drop NAMEWORDS ns) k (le_of_suc-le-suc h) f.1

abbrev name_of : Statement → List ℕ
name_of s = s.name

names-cut : (hs ns vs bs : List ℕ) → map name_of (cut_statements hs ns vs bs) ≡ cut_names (length hs) ns
unfolding cut_statements cut_names
names-cut [] ns vs bs = refl
names-cut (h ∷ hs) ns vs bs =
    ap (λ (l : List (List ℕ)). unpacked (take NAMEWORDS ns) ∷ l)
    (names-cut hs (drop NAMEWORDS ns) (drop (lower h) vs) (drop (bytes_taken (upper h / 2) (take (lower h) vs)) bs))

names-ordered : (ss : List Statement) → names ss ≡ ordered (map name_of ss)
unfolding names ordered
names-ordered [] = refl
names-ordered (s ∷ ss) = ap (inserted s.name) (names-ordered ss)

-- for places that are none
abbrev pub first : List ℕ → List ℕ
first m = name_at (name_words m) 0

module _ (m : List ℕ) (S : Sound m) where
  pub name-count : name_count (name_words m) ≡ statement_count m
  name-count = omega (arith, length-names m S.sizes)

  pub legible : Legible (name_words m)
  legible = record { legible = λ k h. named-at (head_words m) (name_words m) k (omega (arith, name-count, length-heads m S.sizes)) S.names }

  pub ordered-names : ordered (cut_names (name_count (name_words m)) (name_words m)) ≡ names_in (decode m)
  ordered-names =
      let e : name_count (name_words m) ≡ length (head_words m) = name-count ∙ sym (length-heads m S.sizes) in
      sym
      (names-ordered (program (decode m))
      ∙ ap (λ (ss : List Statement). ordered (map name_of ss)) (program-decode m S)
      ∙ ap ordered (names-cut (head_words m) (name_words m) (value_words m) (held_bytes m) ∙ ap (λ (k : ℕ). cut_names k (name_words m)) (sym e)))

  -- ---- the name at the k-th of the first places, as a loop reads it

  module _ (held : ℕ) (ps : List ℕ) (P : Places (name_words m) held ps) (k : ℕ) (h : k < held) where
    place : get_or ps k 0 < name_count (name_words m)
    place = place-held (name_words m) held ps P k h

    pub place-named : (names : List ℕ) → names ≡ name_words m → get_or ps k 0 < name_count names
    place-named names e = subst (λ (l : List ℕ). get_or ps k 0 < name_count l) (sym e) place

    pub within-listed : k < length (listed m held ps)
    within-listed = omega (arith, length-names_at (name_words m) held ps P)

    module _ (names words : List ℕ) (e : names ≡ name_words m) (w : words ≡ words_at names (get_or ps k 0)) where
      words_are : words ≡ words_at (name_words m) (get_or ps k 0)
      words_are = w ∙ ap (λ (l : List ℕ). words_at l (get_or ps k 0)) e

      four : length words ≡ NAMEWORDS
      four = ap length words_are ∙ length-words_at (name_words m) (get_or ps k 0) place

      pub holding : Holding words
      holding = record { four = four; name = legal-unpacked words (omega (arith, four)) (ap holds_name words_are ∙ legible.legible (get_or ps k 0) place) }

      pub name-listed : get_or (listed m held ps) k (first m) ≡ unpacked words
      name-listed = name-held (name_words m) held ps P k h ∙ sym (ap unpacked words_are)
