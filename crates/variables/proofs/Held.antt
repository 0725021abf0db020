-- The statements of an undamaged memory, by their places: each has the words of its name, the values after those of all before it, and
-- its strings' bytes after those of all before it. Assumes nothing.
use Prim.Native.Nat.{ℕ, zero, suc, ◌+◌, ◌*◌, ◌/◌, ◌%◌, ◌≤◌, ◌<◌}
use mathlib.Core.Path.{◌≡◌, refl, sym, ap, subst, ◌∙◌}
use mathlib.Core.Bool.{true}
use mathlib.Core.List.{List, [], ◌∷◌}
use native.Mathlib.Nat.{not-suc-le-zero, le_of_suc-le-suc}
use native.Mathlib.Omega.{arith}
use lib.ListN.{length, take, drop, get_or, length-drop}
use lib.Seq.{drop-drop, drop-length, take_all, length-take-le}
use Rattle.statement.specs.Statements.{how_many, Statement}
use Rattle.words.specs.Over.{part}
use Rattle.words.specs.Halves.{upper, lower, sum}
use Rattle.plain.proofs.Each.{Each}
use Rattle.words.proofs.Halves.{sum-parts}
use Rattle.words.proofs.Steps.{drop-next, sum-next}
use Rattle.names.specs.Names.{NAMEWORDS, unpacked}
use Rattle.layout.specs.State.{program}
use Rattle.layout.specs.Memory.{statement_count, value_count, head_words, name_words, value_words, held_bytes, operator_of, cut_values, bytes_taken, cut_statements, decode}
use Rattle.layout.specs.Damage.{fits, total_bytes}
use Rattle.layout.proofs.Areas.{length-heads, length-values}
use Rattle.layout.proofs.Sound.{Fitting, Sound}
use Rattle.layout.proofs.Spelling.{many-cut}
use Rattle.layout.proofs.Holds.{program-decode, length-program}

-- the statements from place k on
drop-cut : (k : ℕ) (hs ns vs bs : List ℕ)
    → drop k (cut_statements hs ns vs bs) ≡ cut_statements (drop k hs) (drop (NAMEWORDS * k) ns) (drop (sum (take k hs)) vs) (drop (total_bytes (take k hs) vs) bs)
unfolding cut_statements sum total_bytes
drop-cut zero hs ns vs bs = refl
drop-cut (suc k) [] ns vs bs = refl
drop-cut (suc k) (h ∷ hs) ns vs bs =
    let e : NAMEWORDS + NAMEWORDS * k ≡ NAMEWORDS * suc k = omega arith in
    let t = bytes_taken (upper h / 2) (take (lower h) vs) in
    let a = drop-drop (NAMEWORDS * k) NAMEWORDS ns ∙ ap (λ (j : ℕ). drop j ns) e in
    let b = drop-drop (sum (take k hs)) (lower h) vs in
    let c = drop-drop (total_bytes (take k hs) (drop (lower h) vs)) t bs in
    drop-cut k hs (drop NAMEWORDS ns) (drop (lower h) vs) (drop t bs) ∙ (λ i. cut_statements (drop k hs) (a i) (b i) (c i))

-- the words of the statement at place k fit its kind
fitting-at : (k : ℕ) (hs vs : List ℕ) → k < length hs → Fitting hs vs
    → Each (λ w. fits (upper (get_or hs k 0) / 2) w ≡ true) (part (sum (take k hs)) (lower (get_or hs k 0)) vs)
unfolding sum
fitting-at k [] vs h f = absurd (not-suc-le-zero h)
fitting-at zero (x ∷ hs) vs h f = f.0
fitting-at (suc k) (x ∷ hs) vs h f =
    subst (λ (l : List ℕ). Each (λ w. fits (upper (get_or hs k 0) / 2) w ≡ true) (take (lower (get_or hs k 0)) l)) (drop-drop (sum (take k hs)) (lower x) vs)
    (fitting-at k hs (drop (lower x) vs) (le_of_suc-le-suc h) f.1)

-- ---- the statement at place k of a memory

-- its name's words
abbrev pub words_at : (m : List ℕ) (k : ℕ) → List ℕ
words_at m k = part (NAMEWORDS * k) NAMEWORDS (name_words m)

-- its kind, its operator and its number of values
abbrev pub head_at : (m : List ℕ) (k : ℕ) → ℕ
head_at m k = get_or (head_words m) k 0

-- the place of its first value
abbrev pub offset_at : (m : List ℕ) (k : ℕ) → ℕ
offset_at m k = sum (take k (head_words m))

-- its values' words
abbrev pub values_at : (m : List ℕ) (k : ℕ) → List ℕ
values_at m k = part (offset_at m k) (lower (head_at m k)) (value_words m)

-- the bytes from its first string's on
abbrev pub bytes_from : (m : List ℕ) (k : ℕ) → List ℕ
bytes_from m k = drop (total_bytes (take k (head_words m)) (value_words m)) (held_bytes m)

abbrev pub statement_at : (m : List ℕ) (k : ℕ) → Statement
statement_at m k = record {
  name = unpacked (words_at m k);
  operator = operator_of (upper (head_at m k) % 2);
  values = cut_values (upper (head_at m k) / 2) (values_at m k) (bytes_from m k);
}

module _ (m : List ℕ) (S : Sound m) where
  -- the values end where the last statement's do
  pub offset-end : offset_at m (statement_count m) ≡ value_count m
  offset-end = ap sum (take_all (statement_count m) (head_words m) (omega (arith, length-heads m S.sizes))) ∙ S.values=

  -- no statement is left there
  pub program-end : (k : ℕ) → k ≡ statement_count m → drop k (program (decode m)) ≡ []
  program-end k e = ap (λ (j : ℕ). drop j (program (decode m))) (e ∙ sym (length-program m S)) ∙ drop-length (program (decode m))

  module _ (k : ℕ) (h : k < statement_count m) where
    within : k < length (head_words m)
    within = omega (arith, length-heads m S.sizes)

    pub values-within : offset_at m k + lower (head_at m k) ≤ length (value_words m)
    values-within = omega (arith, sum-parts k (head_words m), sum-next (head_words m) k within, S.values=, length-values m S.sizes)

    pub length-values_at : length (values_at m k) ≡ lower (head_at m k)
    length-values_at =
        length-take-le (lower (head_at m k)) (drop (offset_at m k) (value_words m))
        (omega (arith, values-within, length-drop (offset_at m k) (value_words m)))

    pub fits-at : Each (λ w. fits (upper (head_at m k) / 2) w ≡ true) (values_at m k)
    fits-at = fitting-at k (head_words m) (value_words m) within S.fitting

    pub count_at : how_many (statement_at m k).values ≡ lower (head_at m k)
    count_at = many-cut (upper (head_at m k) / 2) (values_at m k) (bytes_from m k) ∙ length-values_at

    pub program-next : drop k (program (decode m)) ≡ statement_at m k ∷ drop (k + 1) (program (decode m))
    unfolding cut_statements
    program-next =
        let d =
        ap (drop k) (program-decode m S)
        ∙ drop-cut k (head_words m) (name_words m) (value_words m) (held_bytes m)
        ∙ ap (λ (l : List ℕ). cut_statements l (drop (NAMEWORDS * k) (name_words m)) (drop (offset_at m k) (value_words m)) (bytes_from m k)) (drop-next (head_words m) k 0 within) in
        d ∙ ap (λ (l : List Statement). statement_at m k ∷ l) (sym (ap (drop 1) d) ∙ drop-drop 1 k (program (decode m)))
