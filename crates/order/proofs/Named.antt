-- The names at places: which there are, and how they compare. Assumes nothing.
use mathlib.Core.Path.{◌≡◌, refl, sym, ap, ◌∙◌}
use mathlib.Core.Bool.{true}
use mathlib.Core.List.{List, [], ◌∷◌}
use Prim.Native.Nat.{ℕ, zero, suc, ◌+◌, ◌*◌, ◌<◌}
use native.Mathlib.Nat.{not-suc-le-zero, le_of_suc-le-suc}
use native.Mathlib.Omega.{arith}
use borrow.Author.Tests.{ltb-true}
use lib.Dec.{ltb}
use lib.ListN.{length, take, drop, get_or, length-drop, length-map, get_or-map}
use lib.Seq.{length-take-le, get_or-take, drop-drop}
use Rattle.plain.specs.Lists.{equal}
use Rattle.plain.proofs.Each.{each_at, each_take, each-drop}
use Rattle.words.proofs.Each.{WORD, Words, all-each}
use Rattle.words.proofs.Steps.{drop-next, drop-end}
use Rattle.names.specs.Names.{NAMEWORDS, unpacked}
use Rattle.order.specs.Order.{before, inserted}
use Rattle.order.specs.Places.{Legible, Places, name_count, words_at, name_at, names_at, cut_names, ordered}
use Rattle.order.proofs.Packed.{before-unpacked, equal-unpacked}

-- ---- two names

pub length-words_at : (ws : List ℕ) (p : ℕ) → p < name_count ws → length (words_at ws p) ≡ NAMEWORDS
length-words_at ws p h = length-take-le NAMEWORDS (drop (NAMEWORDS * p) ws) (omega (arith, length-drop (NAMEWORDS * p) ws))

module _ (ws : List ℕ) (f : Words ws) (l : Legible ws) (p q : ℕ) (h : p < name_count ws) (k : q < name_count ws) where
  words : (p : ℕ) → Words (words_at ws p)
  words p = each_take (λ w. w < WORD) NAMEWORDS (drop (NAMEWORDS * p) ws) (each-drop (λ w. w < WORD) (NAMEWORDS * p) ws f)

  sized : length (words_at ws p) ≡ length (words_at ws q)
  sized = length-words_at ws p h ∙ sym (length-words_at ws q k)

  pub before_at : before (name_at ws p) (name_at ws q) ≡ before (words_at ws p) (words_at ws q)
  before_at = before-unpacked (words_at ws p) (words_at ws q) sized (words p) (words q) (l.legible p h) (l.legible q k)

  pub equal-at : equal (name_at ws p) (name_at ws q) ≡ equal (words_at ws p) (words_at ws q)
  equal-at = equal-unpacked (words_at ws p) (words_at ws q) sized (words p) (words q) (l.legible p h) (l.legible q k)

-- ---- the names at the first places of a list

module _ (ws : List ℕ) (held : ℕ) (ps : List ℕ) (P : Places ws held ps) where
  pub length-names_at : length (names_at ws held ps) ≡ held
  length-names_at = length-map (take held ps) (name_at ws) ∙ length-take-le held ps P.few

  module _ (i : ℕ) (h : i < held) where
    pub name-held : get_or (names_at ws held ps) i (name_at ws 0) ≡ name_at ws (get_or ps i 0)
    name-held = get_or-map (name_at ws) (take held ps) i 0 ∙ ap (name_at ws) (get_or-take held ps i 0 h)

    pub place-held : get_or ps i 0 < name_count ws
    place-held =
        let e = all-each (λ p. ltb p (name_count ws)) (take held ps) P.within in
        let a = each_at (λ p. ltb p (name_count ws) ≡ true) (take held ps) i 0 (omega (arith, length-take-le held ps P.few)) e in
        rw (get_or-take held ps i 0 h) at (ltb-true (get_or (take held ps) i 0) (name_count ws) a)

-- ---- the names one after the other

pub length-cut_names : (k : ℕ) (ws : List ℕ) → length (cut_names k ws) ≡ k
unfolding cut_names
length-cut_names zero ws = refl
length-cut_names (suc k) ws = ap suc (length-cut_names k (drop NAMEWORDS ws))

-- the words at a place after the first
pub words_at-next : (ws : List ℕ) (p : ℕ) → words_at (drop NAMEWORDS ws) p ≡ words_at ws (suc p)
words_at-next ws p =
    let e : NAMEWORDS + NAMEWORDS * p ≡ NAMEWORDS * suc p = omega arith in
    ap (take NAMEWORDS) (drop-drop (NAMEWORDS * p) NAMEWORDS ws ∙ ap (λ (n : ℕ). drop n ws) e)

pub name-cut : (k : ℕ) (ws : List ℕ) (i : ℕ) (d : List ℕ) → i < k → get_or (cut_names k ws) i d ≡ name_at ws i
unfolding cut_names
name-cut zero ws i d h = absurd (not-suc-le-zero h)
name-cut (suc k) ws zero d h = refl
name-cut (suc k) ws (suc i) d h = name-cut k (drop NAMEWORDS ws) i d (le_of_suc-le-suc h) ∙ ap unpacked (words_at-next ws i)

module _ (ws : List ℕ) (i : ℕ) where
  abbrev from : ℕ → List (List ℕ)
  from j = drop j (cut_names (name_count ws) ws)

  pub ordered-next : i < name_count ws → ordered (from i) ≡ inserted (name_at ws i) (ordered (from (i + 1)))
  unfolding ordered
  ordered-next h =
      ap ordered
      (drop-next (cut_names (name_count ws) ws) i [] (omega (arith, length-cut_names (name_count ws) ws))
      ∙ ap (λ (n : List ℕ). n ∷ from (i + 1)) (name-cut (name_count ws) ws i [] h))

  pub ordered_end : i ≡ name_count ws → [] ≡ ordered (from i)
  unfolding ordered
  ordered_end e =
      let l = length-cut_names (name_count ws) ws in
      sym (ap ordered (drop-end (cut_names (name_count ws) ws) i (omega arith) (omega arith)))
