-- How many statements, values and bytes there are after a line, and that the last statement bears its reader out: a place that is held counts as
-- one value until the first values take it. Assumes nothing.
use Prim.Native.Nat.{ℕ, ◌+◌, ◌≤◌}
use native.Mathlib.Omega.{arith}
use mathlib.Core.Path.{◌≡◌, refl, sym, ap, subst, ◌∙◌}
use mathlib.Core.List.{List, [], ◌∷◌, ◌++◌, map}
use lib.ListN.{length, length-append, length-map}
use Rattle.plain.proofs.Each.{Each}
use Rattle.value.specs.Value.{Value, number, string}
use Rattle.statement.specs.Statements.{Event, opened, value, Values, numbers, strings, Statement, numbers_in, strings_in, of_one_kind, openings, givings, bytes_given}
use Rattle.statement.specs.Values.{bytes_in_all}
use Rattle.statement.specs.declared.head.Operator.{Operator}
use Rattle.statement.specs.declared.values.Kind.{Kind}
use Rattle.statement.specs.declared.values.Kind.TheVariants as K
use Rattle.statement.specs.declared.values.Reader.{Reader}
use Rattle.statement.specs.declared.values.Reader.TheVariants as R
use Rattle.statement.proofs.Events.{openings-values, givings-values, bytes_given-values}
use Rattle.statement.proofs.OneKind.{Taking, Full, After, Led, all-kept}
use Rattle.layout.specs.State.{flat, words_of, spelled, values_of, bytes_of}
use Rattle.layout.proofs.Columns.{flat_append}
use Rattle.layout.proofs.Spelling.{length-words}
use Rattle.loading.proofs.Adding.{spelled-long}
use Rattle.loading.proofs.Kept.{Number, String}
use Rattle.opening.specs.Storing.{PLACEHOLDER, of_kind, on_last, extended}
use Rattle.opening.proofs.Extending.{stating, extended_none, extended-opened, extended-given}
use Rattle.opening.proofs.Lines.{Outside, Sort, Holds}
use Rattle.opening.proofs.Placing.{first-placed, taking-numbers, taking-strings, last_of}
use Rattle.entering.specs.Counts.{places_of, places}
use Rattle.entering.specs.Lines.{Fills, Listing, Bears}
use Rattle.entering.proofs.Further.{length_last}
use Rattle.entering.proofs.Going.{each_number, each-string}

-- ---- the values of one statement

number-count : (vs : List Value) → Each Number vs → (length (numbers_in vs) ≡ length vs) × (bytes_in_all vs ≡ 0)
number-count [] f = (refl, refl)
number-count (number x ∷ vs) f = let r = number-count vs f.1 in (omega (arith, r.0), omega (arith, r.1))
number-count (string s ∷ vs) f = absurd f.0

string-count : (vs : List Value) → Each String vs → (length (strings_in vs) ≡ length vs) × (length (flat (λ (s : List ℕ). s) (strings_in vs)) ≡ bytes_in_all vs)
unfolding flat
string-count [] f = (refl, refl)
string-count (number x ∷ vs) f = absurd f.0
string-count (string s ∷ vs) f =
    let r = string-count vs f.1 in
    (omega (arith, r.0), omega (arith, r.1, length-append s (flat (λ (s : List ℕ). s) (strings_in vs))))

-- values are given to a list, which has this kind then
record Takes (k : Kind) (old : Values) (vs : List Value) (to : Kind) : Type 0 where
  words : length (words_of (of_kind k vs old)) + places_of k ≡ length (words_of old) + length vs + places_of to
  letters : length (spelled (of_kind k vs old)) ≡ length (spelled old) + bytes_in_all vs
  fills : Fills to (of_kind k vs old)

takes : (k : Kind) (old : Values) (vs : List Value) (to : Kind) → Fills k old → Taking k vs to → Takes k old vs to
takes K.Empty old [] to f t =
    record { words = omega (arith, ap places_of t); letters = omega arith; fills = subst (λ (j : Kind). Fills j old) t f }
takes K.Empty old (number x ∷ vs) to f t =
    let a = all-kept (number x ∷ vs) to t in
    let n = taking-numbers vs to t.1 in
    let v = of_one_kind (number x ∷ vs) in
    record {
      words = omega (arith, a.0, length-words v, ap (λ (o : Values). length (words_of o)) f, ap places_of n);
      letters = omega (arith, a.1, spelled-long v, ap (λ (o : Values). length (spelled o)) f);
      fills = subst (λ (j : Kind). Fills j v) n tt;
    }
takes K.Empty old (string s ∷ vs) to f t =
    let a = all-kept (string s ∷ vs) to t in
    let n = taking-strings vs to t.1 in
    let v = of_one_kind (string s ∷ vs) in
    record {
      words = omega (arith, a.0, length-words v, ap (λ (o : Values). length (words_of o)) f, ap places_of n);
      letters = omega (arith, a.1, spelled-long v, ap (λ (o : Values). length (spelled o)) f);
      fills = subst (λ (j : Kind). Fills j v) n tt;
    }
takes K.Numbers (numbers bs) vs to f t =
    let n = taking-numbers vs to t in
    let r = number-count vs (each_number vs to t) in
    record {
      words = omega (arith, r.0, length-append bs (numbers_in vs), ap places_of n);
      letters = omega (arith, r.1);
      fills = subst (λ (j : Kind). Fills j (numbers (bs ++ numbers_in vs))) n tt;
    }
takes K.Numbers (strings ss) vs to f t = absurd f
takes K.Strings (numbers bs) vs to f t = absurd f
takes K.Strings (strings ss) vs to f t =
    let n = taking-strings vs to t in
    let r = string-count vs (each-string vs to t) in
    let id : List ℕ → List ℕ = λ s. s in
    let x = strings_in vs in
    record {
      words = omega (arith, r.0, length-map (ss ++ x) length, length-map ss length, length-append ss x, ap places_of n);
      letters = omega (arith, r.1, ap length (flat_append id ss x), length-append (flat id ss) (flat id x));
      fills = subst (λ (j : Kind). Fills j (strings (ss ++ x))) n tt;
    }

-- the reader after them
places-full : (k : Kind) → Full k → places_of k ≡ 0
places-full K.Empty f = absurd f
places-full K.Numbers f = refl
places-full K.Strings f = refl

places-after : (k : Kind) (s : Reader) → After k s → places s ≡ places_of k
places-after k R.Text a = absurd a
places-after k R.Data a = sym (places-full k a)
places-after k (R.List j) a = sym (ap places_of a)

bears-last : (k : Kind) (s : Reader) (body : List Statement) (x : Statement) → After k s → Fills k x.values → Bears s (body ++ x ∷ [])
bears-last k R.Text body x a f = tt
bears-last k R.Data body x a f = tt
bears-last k (R.List j) body x a f = record { before = body; last = x; split = refl; fills = subst (λ (i : Kind). Fills i x.values) a f }

-- ---- a line

pub record Grown (r s : Reader) (es : List Event) (body new : List Statement) : Type 0 where
  pub statements : length new ≡ length body + openings es
  pub values : length (flat values_of new) + places r ≡ length (flat values_of body) + givings es + places s
  pub bytes : length (flat bytes_of new) ≡ length (flat bytes_of body) + bytes_given es
  pub bears : Bears s new

places-outside : (r : Reader) → Outside r → places r ≡ 0
places-outside R.Text f = refl
places-outside R.Data f = refl
places-outside (R.List k) f = absurd f

bears-outside : (r : Reader) (body : List Statement) → Outside r → Bears r body
bears-outside R.Text body f = tt
bears-outside R.Data body f = tt
bears-outside (R.List k) body f = absurd f

grown-quiet : (r s : Reader) (body : List Statement) → Outside r → Outside s → Grown r s [] body body
grown-quiet r s body f g =
    record { statements = omega arith; values = omega (arith, places-outside r f, places-outside s g); bytes = omega arith; bears = bears-outside s body g }

module _ (k : Kind) (s : Reader) (vs : List Value) (l : Led k vs s) (before : List Statement) (x : Statement) (f : Fills k x.values) where
  abbrev y : Statement
  y = record { name = x.name; operator = x.operator; values = of_kind k vs x.values }

  grown-last : Grown (R.List k) s (map value vs) (before ++ x ∷ []) (before ++ y ∷ [])
  grown-last =
      let t = takes k x.values vs l.to f l.taking in
      let p = places-after l.to s l.after in
      record {
        statements = omega (arith, length-append before (x ∷ []), length-append before (y ∷ []), openings-values vs);
        values = omega (arith, t.words, p, length_last values_of before x, length_last values_of before y, givings-values vs);
        bytes = omega (arith, t.letters, length_last bytes_of before x, length_last bytes_of before y, bytes_given-values vs);
        bears = bears-last l.to s before y l.after t.fills;
      }

grown-opened : (body : List Statement) (n : List ℕ) (o : Operator) (vs : List Value) (s : Reader) → Led K.Empty vs s
    → Grown R.Data s (opened n o ∷ map value vs) body (body ++ stating n o vs ∷ [])
grown-opened body n o vs s l =
    let x : Statement = record { name = n; operator = o; values = PLACEHOLDER } in
    let y : Statement = record { name = n; operator = o; values = of_kind K.Empty vs PLACEHOLDER } in
    let q : y ≡ stating n o vs = ap (λ (v : Values). record { name = n; operator = o; values = v }) (first-placed vs) in
    let g : Grown (R.List K.Empty) s (map value vs) (body ++ x ∷ []) (body ++ stating n o vs ∷ []) =
    subst (λ (z : Statement). Grown (R.List K.Empty) s (map value vs) (body ++ x ∷ []) (body ++ z ∷ [])) q (grown-last K.Empty s vs l body x refl) in
    record {
      statements = omega (arith, g.statements, length-append body (x ∷ []));
      values = omega (arith, g.values, length_last values_of body x);
      bytes = omega (arith, g.bytes, length_last bytes_of body x);
      bears = g.bears;
    }

grown-given : (k : Kind) (s : Reader) (vs : List Value) → Led k vs s → (body : List Statement) → Listing k body
    → Grown (R.List k) s (map value vs) body (on_last (of_kind k vs) body)
grown-given k s vs l body d =
    let x = d.last in
    let p : on_last (of_kind k vs) body ≡ d.before ++ y k s vs l d.before x d.fills ∷ [] = ap (on_last (of_kind k vs)) d.split ∙ last_of (of_kind k vs) d.before x in
    rw p (subst (λ (z : List Statement). Grown (R.List k) s (map value vs) z (d.before ++ y k s vs l d.before x d.fills ∷ [])) (sym d.split) (grown-last k s vs l d.before x d.fills))

-- what every line does
abbrev pub Grows : Sort
Grows r s es = (body : List Statement) → Bears r body → Grown r s es body (extended r body es)

pub grows-line : Holds Grows
grows-line =
    record {
      quiet = λ r s f g body d. rw (extended_none body r f) (grown-quiet r s body f g);
      opens = λ n o s vs l v e body d. rw (extended-opened body n o vs) (grown-opened body n o vs s e);
      gives = λ k s vs v l body d. rw (extended-given body k vs) (grown-given k s vs l body d);
    }

-- the place that a reader counts on is held
pub places-held : (r : Reader) (body : List Statement) → Bears r body → places r ≤ length (flat values_of body)
places-held R.Text body d = omega arith
places-held R.Data body d = omega arith
places-held (R.List K.Empty) body d =
    omega (arith, ap (λ (l : List Statement). length (flat values_of l)) d.split, length_last values_of d.before d.last, ap (λ (v : Values). length (words_of v)) d.fills)
places-held (R.List K.Numbers) body d = omega arith
places-held (R.List K.Strings) body d = omega arith
