-- The statements with a place held in a list that has no value yet go on, line by line, as the statements of all events: the statement that was
-- opened last has its values, and a list keeps to its kind. Assumes nothing.
use mathlib.Core.Path.{◌≡◌, refl, sym, ap, ◌∙◌}
use mathlib.Core.Bool.{false≢true}
use mathlib.Core.List.{List, [], ◌∷◌, ◌++◌, map, append-nil}
use Prim.Native.Nat.{ℕ}
use lib.Ieee.{binary64, to_bits}
use Rattle.value.specs.Value.{Value, number, string}
use Rattle.statement.specs.Statements.{Event, opened, value, Values, numbers, strings, Statement, numbers_in, strings_in, of_one_kind, gathered, statements}
use Rattle.statement.specs.Statements.{Gathered}
use Rattle.statement.specs.declared.head.Operator.{Operator}
use Rattle.statement.specs.declared.values.Kind.{Kind}
use Rattle.statement.specs.declared.values.Kind.TheVariants as K
use Rattle.statement.proofs.OneKind.{Taking}
use Rattle.opening.specs.Storing.{placed, with_place, of_kind, on_last, extended}
use Rattle.opening.proofs.Extending.{stating, gathered-values, extended_none, extended-opened, extended-given}
use Rattle.opening.proofs.Lines.{Sort, Holds}
use Rattle.opening.proofs.Lists.{Listing, Reads, map-append, split-on}

-- the statements of events, with the place that is held
abbrev pub held : List Event → List Statement
held es = map with_place (statements es)

-- ---- the statements of events one after the other

-- up to an opening
gathered-opened : (es : List Event) (n : List ℕ) (o : Operator) (fs : List Event)
    → gathered (es ++ opened n o ∷ fs) ≡ record { loose = (gathered es).loose; statements = statements es ++ statements (opened n o ∷ fs) }
gathered-opened [] n o fs = refl
gathered-opened (value v ∷ es) n o fs = rw (gathered-opened es n o fs)
gathered-opened (opened m p ∷ es) n o fs = rw (gathered-opened es n o fs)

pub held-opened : (es : List Event) (n : List ℕ) (o : Operator) (vs : List Value) → held (es ++ opened n o ∷ map value vs) ≡ held es ++ stating n o vs ∷ []
held-opened es n o vs =
    ap (λ (g : Gathered). map with_place g.statements) (gathered-opened es n o (map value vs))
    ∙ map-append with_place (statements es) (statements (opened n o ∷ map value vs))
    ∙ rw (gathered-values vs)

-- ---- a list keeps to its kind

pub numbers-append : (vs ws : List Value) → numbers_in (vs ++ ws) ≡ numbers_in vs ++ numbers_in ws
numbers-append [] ws = refl
numbers-append (number x ∷ vs) ws = rw (numbers-append vs ws)
numbers-append (string s ∷ vs) ws = numbers-append vs ws

pub strings-append : (vs ws : List Value) → strings_in (vs ++ ws) ≡ strings_in vs ++ strings_in ws
strings-append [] ws = refl
strings-append (number x ∷ vs) ws = strings-append vs ws
strings-append (string s ∷ vs) ws = rw (strings-append vs ws)

pub taking-numbers : (vs : List Value) (k : Kind) → Taking K.Numbers vs k → K.Numbers ≡ k
taking-numbers [] k f = f
taking-numbers (number x ∷ vs) k f = taking-numbers vs k f.1
taking-numbers (string s ∷ vs) k f = absurd (false≢true f.0)

pub taking-strings : (vs : List Value) (k : Kind) → Taking K.Strings vs k → K.Strings ≡ k
taking-strings [] k f = f
taking-strings (number x ∷ vs) k f = absurd (false≢true f.0)
taking-strings (string s ∷ vs) k f = taking-strings vs k f.1

pub first-placed : (ws : List Value) → of_kind K.Empty ws (placed (of_one_kind [])) ≡ placed (of_one_kind ws)
first-placed [] = refl
first-placed (number x ∷ ws) = refl
first-placed (string s ∷ ws) = refl

values-on : (k : Kind) (vs ws : List Value) → Taking K.Empty vs k → of_kind k ws (placed (of_one_kind vs)) ≡ placed (of_one_kind (vs ++ ws))
values-on k [] ws f = rw (sym f) (first-placed ws)
values-on k (number x ∷ vs) ws f =
    rw (sym (taking-numbers vs k f.1)) (ap (λ (bs : List ℕ). numbers (to_bits binary64 x ∷ bs)) (sym (numbers-append vs ws)))
values-on k (string s ∷ vs) ws f =
    rw (sym (taking-strings vs k f.1)) (ap (λ (ss : List (List ℕ)). strings (s ∷ ss)) (sym (strings-append vs ws)))

-- ---- the statements with what a line adds

pub last_of : (f : Values → Values) (ss : List Statement) (x : Statement)
    → on_last f (ss ++ x ∷ []) ≡ ss ++ record { name = x.name; operator = x.operator; values = f x.values } ∷ []
last_of f [] x = refl
last_of f (s ∷ []) x = refl
last_of f (s ∷ t ∷ ss) x = ap (λ (l : List Statement). s ∷ l) (last_of f (t ∷ ss) x)

given-on : (k : Kind) (es : List Event) (d : Listing k es) (ws : List Value) → on_last (of_kind k ws) (held es) ≡ held (es ++ map value ws)
given-on k es d ws =
    let n = d.name in
    let o = d.operator in
    ap (on_last (of_kind k ws)) (ap held d.split ∙ held-opened d.earlier n o d.values)
    ∙ last_of (of_kind k ws) (held d.earlier) (stating n o d.values)
    ∙ ap (λ (v : Values). held d.earlier ++ record { name = n; operator = o; values = v } ∷ []) (values-on k d.values ws d.taking)
    ∙ sym (held-opened d.earlier n o (d.values ++ ws))
    ∙ ap held (sym (split-on k es d ws))

-- what every line does
abbrev pub Extends : Sort
Extends r s fs = (es : List Event) → Reads r es → extended r (held es) fs ≡ held (es ++ fs)

pub extended-held : Holds Extends
extended-held =
    record {
      quiet = λ r s f g es d. extended_none (held es) r f ∙ ap held (sym (append-nil es));
      opens = λ n o s vs l h e es d. extended-opened (held es) n o vs ∙ sym (held-opened es n o vs);
      gives = λ k s vs h l es d. extended-given (held es) k vs ∙ given-on k es d vs;
    }
