-- A line keeps statements fair, whatever they are: it opens one with a legal name and a value or a place held for it, adds values that are legal to
-- the last one, or leaves what there is. Assumes nothing.
use Prim.Native.Nat.{ℕ, ◌≤◌}
use native.Mathlib.Omega.{arith}
use mathlib.Core.Path.{refl}
use mathlib.Core.List.{List, [], ◌∷◌}
use lib.ListN.{length-append}
use Rattle.plain.proofs.Each.{Each, each_append}
use Rattle.value.specs.Value.{Value, number, string}
use Rattle.statement.specs.Statements.{Values, numbers, strings, how_many, Statement, numbers_in, strings_in, of_one_kind}
use Rattle.statement.specs.declared.head.Operator.{Operator}
use Rattle.statement.specs.declared.values.Kind.{Kind}
use Rattle.statement.specs.declared.values.Kind.TheVariants as K
use Rattle.statement.proofs.Names.{LegalName}
use Rattle.statement.proofs.OneKind.{LegalValue, LegalValues, legal-values}
use Rattle.layout.proofs.Legal.{FairString, FairValues, Fair}
use Rattle.loading.proofs.Admitted.{Small, fair-values, fair}
use Rattle.opening.specs.Storing.{placed, in_place, joined_to, of_kind, on_last, extended}
use Rattle.opening.proofs.Lines.{Sort, Holds}
use Rattle.opening.proofs.Extending.{stating, extended_none, extended-opened, extended-given}

-- ---- a statement that is opened

some-placed : (vs : List Value) → 1 ≤ how_many (placed (of_one_kind vs))
some-placed [] = omega arith
some-placed (number x ∷ vs) = omega arith
some-placed (string s ∷ vs) = omega arith

legal-placed : (vs : List Value) → LegalValues Small (of_one_kind vs) → LegalValues Small (placed (of_one_kind vs))
legal-placed [] h = (refl, tt)
legal-placed (number x ∷ vs) h = h
legal-placed (string s ∷ vs) h = h

fair-stating : (n : List ℕ) (o : Operator) (vs : List Value) → LegalName n → Each (LegalValue Small) vs → Fair (stating n o vs)
fair-stating n o vs l h =
    fair (stating n o vs) (record { named = l; filled = some-placed vs; values = legal-placed vs (legal-values Small vs h) })

-- ---- values that go on

fair-numbers : (vs : List Value) → Each (LegalValue Small) vs → Each Small (numbers_in vs)
fair-numbers [] h = tt
fair-numbers (number x ∷ vs) h = (h.0, fair-numbers vs h.1)
fair-numbers (string s ∷ vs) h = fair-numbers vs h.1

fair-strings : (vs : List Value) → Each (LegalValue Small) vs → Each FairString (strings_in vs)
fair-strings [] h = tt
fair-strings (number x ∷ vs) h = fair-strings vs h.1
fair-strings (string s ∷ vs) h = (record { short = h.0.short; fair = h.0.bytes }, fair-strings vs h.1)

-- values, one at least
record Some (v : Values) : Type 0 where
  some : 1 ≤ how_many v
  fair : FairValues v

some-joined : (old : Values) (vs : List Value) → Each (LegalValue Small) vs → Some old → Some (joined_to old vs)
some-joined (numbers bs) vs h f =
    record { some = omega (arith, f.some, length-append bs (numbers_in vs)); fair = each_append Small bs (numbers_in vs) f.fair (fair-numbers vs h) }
some-joined (strings ss) vs h f =
    record { some = omega (arith, f.some, length-append ss (strings_in vs)); fair = each_append FairString ss (strings_in vs) f.fair (fair-strings vs h) }

some_first : (vs : List Value) (old : Values) → Each (LegalValue Small) vs → Some old → Some (in_place vs old)
some_first [] old h f = f
some_first (number x ∷ vs) old h f = record { some = omega arith; fair = fair-values (of_one_kind (number x ∷ vs)) (legal-values Small (number x ∷ vs) h) }
some_first (string s ∷ vs) old h f = record { some = omega arith; fair = fair-values (of_one_kind (string s ∷ vs)) (legal-values Small (string s ∷ vs) h) }

some-on : (k : Kind) (vs : List Value) (old : Values) → Each (LegalValue Small) vs → Some old → Some (of_kind k vs old)
some-on K.Empty vs old h f = some_first vs old h f
some-on K.Numbers vs old h f = some-joined old vs h f
some-on K.Strings vs old h f = some-joined old vs h f

fair-last : (k : Kind) (vs : List Value) → Each (LegalValue Small) vs → (body : List Statement) → Each Fair body → Each Fair (on_last (of_kind k vs) body)
fair-last k vs h [] f = tt
fair-last k vs h (s ∷ []) f =
    let g = some-on k vs s.values h (record { some = f.0.some; fair = f.0.values }) in
    (record { name = f.0.name; some = g.some; values = g.fair }, tt)
fair-last k vs h (s ∷ t ∷ ss) f = (f.0, fair-last k vs h (t ∷ ss) f.1)

-- ---- a line

abbrev pub KeepsFair : Sort
KeepsFair r s fs = (body : List Statement) → Each Fair body → Each Fair (extended r body fs)

pub fair-line : Holds KeepsFair
fair-line =
    record {
      quiet = λ r s f g body h. rw (extended_none body r f) h;
      opens = λ n o s vs l v e body h.
          rw (extended-opened body n o vs) (each_append Fair body (stating n o vs ∷ []) h (fair-stating n o vs l v, tt));
      gives = λ k s vs v l body h. rw (extended-given body k vs) (fair-last k vs v body h);
    }
