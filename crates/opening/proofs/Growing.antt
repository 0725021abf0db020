-- No line takes anything away: a place that is held counts as one value, and a list that goes on gets one at least before it is closed. Assumes nothing.
use Prim.Native.Nat.{ℕ, ◌≤◌}
use native.Mathlib.Omega.{arith}
use mathlib.Core.Path.{◌≡◌, sym, ap, subst, ◌∙◌}
use mathlib.Core.List.{List, [], ◌∷◌, ◌++◌, map, append-nil}
use lib.ListN.{length, length-append}
use Rattle.value.specs.Value.{Value, number, string}
use Rattle.statement.specs.Statements.{Event, value, Statement, numbers_in, strings_in, of_one_kind}
use Rattle.statement.specs.declared.head.Operator.{Operator}
use Rattle.statement.specs.declared.values.Kind.{Kind}
use Rattle.layout.specs.State.{flat, words_of, spelled, values_of, bytes_of}
use Rattle.layout.proofs.Columns.{flat_append, flat-one}
use Rattle.opening.specs.Storing.{placed}
use Rattle.opening.proofs.Extending.{stating}
use Rattle.opening.proofs.Lines.{Sort, Holds}
use Rattle.opening.proofs.Lists.{Listing, Reads, map-append, split-on}
use Rattle.opening.proofs.Placing.{held, held-opened, numbers-append, strings-append}
use Rattle.opening.proofs.Fitting.{Grows}

grows_same : (a b : List Statement) → a ≡ b → Grows a b
grows_same a b e = rw e (record { statements = omega arith; values = omega arith; bytes = omega arith })

grows-append : (a b : List Statement) → Grows a (a ++ b)
grows-append a b =
    record {
      statements = omega (arith, length-append a b);
      values = omega (arith, ap length (flat_append values_of a b), length-append (flat values_of a) (flat values_of b));
      bytes = omega (arith, ap length (flat_append bytes_of a b), length-append (flat bytes_of a) (flat bytes_of b));
    }

-- ---- the values of one statement

-- a statement with values more has no fewer words, and no fewer bytes
record More (vs ws : List Value) : Type 0 where
  words : length (words_of (placed (of_one_kind vs))) ≤ length (words_of (placed (of_one_kind (vs ++ ws))))
  letters : length (spelled (placed (of_one_kind vs))) ≤ length (spelled (placed (of_one_kind (vs ++ ws))))

more-first : (ws : List Value) → More [] ws
more-first [] = record { words = omega arith; letters = omega arith }
more-first (number x ∷ ws) = record { words = omega arith; letters = omega arith }
more-first (string s ∷ ws) = record { words = omega arith; letters = omega arith }

more : (vs ws : List Value) → More vs ws
more [] ws = more-first ws
more (number x ∷ vs) ws =
    record { words = rw (numbers-append vs ws) (omega (arith, length-append (numbers_in vs) (numbers_in ws))); letters = omega arith }
more (string s ∷ vs) ws =
    let x = strings_in vs in
    let y = strings_in ws in
    let f : List ℕ → List ℕ = λ s. s in
    record {
      words = rw (strings-append vs ws, map-append length x y) (omega (arith, length-append (map length x) (map length y)));
      letters = rw (strings-append vs ws) (omega (arith, ap length (flat_append f (s ∷ x) y), length-append (flat f (s ∷ x)) (flat f y)));
    }

-- the last statement
grows-last : (ss : List Statement) (n : List ℕ) (o : Operator) (vs ws : List Value) → Grows (ss ++ stating n o vs ∷ []) (ss ++ stating n o (vs ++ ws) ∷ [])
grows-last ss n o vs ws =
    let x = stating n o vs in
    let y = stating n o (vs ++ ws) in
    let m = more vs ws in
    record {
      statements = omega (arith, length-append ss (x ∷ []), length-append ss (y ∷ []));
      values = rw (flat_append values_of ss (x ∷ []), flat_append values_of ss (y ∷ []), flat-one values_of x, flat-one values_of y)
          (omega (arith, m.words, length-append (flat values_of ss) (values_of x), length-append (flat values_of ss) (values_of y)));
      bytes = rw (flat_append bytes_of ss (x ∷ []), flat_append bytes_of ss (y ∷ []), flat-one bytes_of x, flat-one bytes_of y)
          (omega (arith, m.letters, length-append (flat bytes_of ss) (bytes_of x), length-append (flat bytes_of ss) (bytes_of y)));
    }

grows-given : (k : Kind) (es : List Event) (d : Listing k es) (ws : List Value) → Grows (held es) (held (es ++ map value ws))
grows-given k es d ws =
    let a = held-opened d.earlier d.name d.operator d.values in
    let b = held-opened d.earlier d.name d.operator (d.values ++ ws) in
    subst (λ (x : List Statement). Grows x (held (es ++ map value ws))) (sym (ap held d.split ∙ a))
    (subst (Grows (held d.earlier ++ stating d.name d.operator d.values ∷ [])) (sym (ap held (split-on k es d ws) ∙ b))
    (grows-last (held d.earlier) d.name d.operator d.values ws))

-- what every line does
abbrev pub Adds : Sort
Adds r s fs = (es : List Event) → Reads r es → Grows (held es) (held (es ++ fs))

pub grows-line : Holds Adds
grows-line =
    record {
      quiet = λ r s f g es d. grows_same (held es) (held (es ++ [])) (ap held (sym (append-nil es)));
      opens = λ n o s vs l h e es d. rw (held-opened es n o vs) (grows-append (held es) (stating n o vs ∷ []));
      gives = λ k s vs h l es d. grows-given k es d vs;
    }
