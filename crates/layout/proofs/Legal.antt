-- What a state must be for a memory to hold it, as facts: within the limits, its labels different, its statements fair.
-- Assumes nothing.
use mathlib.Core.Path.{◌≡◌, refl, sym, ap, subst, ◌∙◌}
use mathlib.Core.Bool.{true, ◌&&◌}
use mathlib.Core.List.{List, [], ◌∷◌, ◌++◌, map, append_assoc, append-nil}
use Prim.Native.Nat.{ℕ, ◌≤◌, ◌<◌}
use native.Mathlib.Omega.{arith}
use borrow.Author.Tests.{leb-true, le-leb}
use lib.Dec.{leb}
use lib.ListN.{length}
use Rattle.statement.specs.Statements.{Statement}
use Rattle.words.specs.Halves.{HALF}
use Rattle.plain.proofs.Tests.{both}
use Rattle.plain.proofs.Each.{Each, each_append, each_map}
use Rattle.words.proofs.Each.{Words}
use Rattle.words.proofs.Halves.{Different, different-append}
use Rattle.layout.specs.State.{Text, Pool, program, flat, words_of, values_of, bytes_of, values, string_bytes}
use Rattle.layout.specs.Limits.{TEXTS, STATEMENTS, VALUES, BYTES, room}
pub use Rattle.layout.specs.Fair.{FairString, FairValues, Fair}
use Rattle.layout.proofs.Columns.{flat_append}

abbrev pub label_of : Text → ℕ
label_of t = t.label

-- ---- the three facts

-- "totals within the limits", of so many texts
pub record FitsIn (most : ℕ) (s : Pool) : Type 0 where
  pub texts : length s ≤ most
  pub statements : length (program s) ≤ STATEMENTS
  pub values : length (values s) ≤ VALUES
  pub bytes : length (string_bytes s) ≤ BYTES

abbrev pub Fits : Pool → Type 0
Fits s = FitsIn TEXTS s

pub record Legal (s : Pool) : Type 0 where
  pub labels : Different (map label_of s)
  pub statements : Each Fair (program s)

-- labels of 32 bits and values' words of 64 bits, as any memory gives them
pub record Bounded (s : Pool) : Type 0 where
  pub labels : Each (λ t. t.label < HALF) s
  pub values : Each (λ x. Words (words_of x.values)) (program s)

pub fits-of : (s : Pool) → room s ≡ true → Fits s
unfolding room
fits-of s e =
    let t = leb (length s) TEXTS in
    let p = leb (length (program s)) STATEMENTS in
    let v = leb (length (values s)) VALUES in
    let a = both (t && p && v) (leb (length (string_bytes s)) BYTES) e in
    let b = both (t && p) v a.0 in
    let c = both t p b.0 in
    record { texts = leb-true _ _ c.0; statements = leb-true _ _ c.1; values = leb-true _ _ b.1; bytes = leb-true _ _ a.1 }

pub of-fits : (s : Pool) → Fits s → room s ≡ true
unfolding room
of-fits s F =
    let a : leb (length s) TEXTS ≡ true = le-leb _ _ F.texts in
    let b : leb (length (program s)) STATEMENTS ≡ true = le-leb _ _ F.statements in
    let c : leb (length (values s)) VALUES ≡ true = le-leb _ _ F.values in
    let d : leb (length (string_bytes s)) BYTES ≡ true = le-leb _ _ F.bytes in
    λ i. a i && b i && c i && d i

-- ---- the statements, values and bytes of texts one after the other

pub program-append : (s t : Pool) → program (s ++ t) ≡ program s ++ program t
unfolding program
program-append [] t = refl
program-append (x ∷ s) t = ap (λ (l : List Statement). x.body ++ l) (program-append s t) ∙ sym (append_assoc x.body (program s) (program t))

pub program-one : (t : Text) → program (t ∷ []) ≡ t.body
unfolding program
program-one t = append-nil t.body

pub values-append : (s t : Pool) → values (s ++ t) ≡ values s ++ values t
values-append s t = ap (flat values_of) (program-append s t) ∙ flat_append values_of (program s) (program t)

pub bytes-append : (s t : Pool) → string_bytes (s ++ t) ≡ string_bytes s ++ string_bytes t
bytes-append s t = ap (flat bytes_of) (program-append s t) ∙ flat_append bytes_of (program s) (program t)

map-append : {A B : Type 0} (f : A → B) (xs ys : List A) → map f (xs ++ ys) ≡ map f xs ++ map f ys
map-append f [] ys = refl
map-append {B = B} f (x ∷ xs) ys = ap (λ (l : List B). f x ∷ l) (map-append f xs ys)

-- ---- nothing is held

pub fits-none : Fits []
unfolding program flat
fits-none = record { texts = omega arith; statements = omega arith; values = omega arith; bytes = omega arith }

pub legal-none : Legal []
unfolding program
legal-none = record { labels = tt; statements = tt }

-- ---- a text more at the end

module _ (s : Pool) (t : Text) where
  pub program-last : program (s ++ (t ∷ [])) ≡ program s ++ t.body
  program-last = program-append s (t ∷ []) ∙ ap (λ (l : List Statement). program s ++ l) (program-one t)

  pub legal-add : Legal s → Each (λ x. x.label ≡ t.label → ⊥) s → Each Fair t.body → Legal (s ++ (t ∷ []))
  legal-add L n f = record {
    labels = subst Different (sym (map-append label_of s (t ∷ []))) (different-append (map label_of s) t.label L.labels (each_map (λ l. l ≡ t.label → ⊥) label_of s n));
    statements = subst (Each Fair) (sym program-last) (each_append Fair (program s) t.body L.statements f);
  }
