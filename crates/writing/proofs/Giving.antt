-- What a line gives to the statement opened last is written as it is read: a list's values, or one alone. Assumes nothing.
use Prim.Native.Nat.{ℕ, ◌+◌}
use native.Mathlib.Omega.{arith}
use mathlib.Core.Path.{◌≡◌, refl, ap, subst, ◌∙◌}
use mathlib.Core.Bool.{Bool, true, false}
use mathlib.Core.List.{List, [], ◌∷◌}
use lib.Dec.{ltb}
use lib.ListN.{length, drop}
use Rattle.std.specs.Prelude.{Option, Some, None, Result, Ok, Err, if◌then◌else◌}
use Rattle.plain.specs.Bytes.{OPEN}
use Rattle.plain.specs.Runs.{past}
use Rattle.value.specs.Classes.{blank, stands}
use Rattle.value.specs.Strings.{undoubled}
use Rattle.value.specs.Value.{Value, number, string, value_of, value_at}
use Rattle.statement.specs.Values.{kind_of, items, given, wrong, rest, list_end, listed, alone, given_at}
use Rattle.value.specs.declared.faults.Fault.TheVariants as F
use Rattle.statement.specs.declared.values.Reader.{Reader}
use Rattle.statement.specs.declared.values.Reader.TheVariants as R
use Rattle.statement.specs.declared.values.Counted.{Counted}
use Rattle.statement.specs.declared.values.Kind.{Kind}
use Rattle.statement.specs.declared.values.Kind.TheVariants as K
use Rattle.value.specs.declared.faults.LineFault.{LineFault}
use Rattle.value.specs.declared.Word.{Word}
use Rattle.value.specs.declared.Word.TheVariants as W
use Rattle.statement.proofs.Bounds.{few-items}
use Rattle.page.specs.Writing.{Page, page, stored_on, stored_all, told_on, any_string, given_on}
use Rattle.page.specs.Pens.{Tells, Stretches, is_strings}
use Rattle.writing.specs.Pens.{Ready, after_list, Stores, Gives}
use Rattle.page.specs.declared.pen.Pen.{Pen}
use Rattle.writing.specs.declared.give.Stored.{Stored}
use Rattle.writing.proofs.SameKind.{OneKind, one_value, taking-one, told-kind, taking-items}
use Rattle.page.proofs.Pages.{stored-heads}

-- ---- how the values end in a line

-- these values are given, and this reader follows
record Ends (ws vs : List Value) (r s : Reader) : Type 0 where
  values : ws ≡ vs
  reader : r ≡ s

rest-given : (ws : List Value) (line : List ℕ) (i : ℕ) (s : Reader) (vs : List Value) → rest ws line i ≡ given s vs → Ends ws vs R.Data s
unfolding rest
rest-given ws line i s vs = by (ltb (past blank line i) (length line))
  where
    by : (b : Bool) → (if b then wrong F.RestOfLine (past blank line i) else given R.Data ws) ≡ given s vs → Ends ws vs R.Data s
    by true e = let z : ◌≡◌ {A = ℕ} 0 1 = cc in absurd (omega arith)
    by false e = record { values = cc; reader = cc }

end-given : (kind : Kind) (ws : List Value) (line : List ℕ) (t : Result (Option ℕ) LineFault) (s : Reader) (vs : List Value) → list_end kind ws line t ≡ given s vs → Ends ws vs (after_list kind t) s
end-given kind ws line (Ok None) s vs e = record { values = cc; reader = cc }
end-given kind ws line (Err q) s vs e = let z : ◌≡◌ {A = ℕ} 0 1 = cc in absurd (omega arith)
end-given K.Empty ws line (Ok (Some k)) s vs e = let z : ◌≡◌ {A = ℕ} 0 1 = cc in absurd (omega arith)
end-given K.Numbers ws line (Ok (Some k)) s vs e = rest-given ws line (k + 1) s vs e
end-given K.Strings ws line (Ok (Some k)) s vs e = rest-given ws line (k + 1) s vs e

module _ (kind : Kind) (line : List ℕ) (i : ℕ) (s : Reader) (vs : List Value) where
  list-given : listed kind line i ≡ given s vs → Ends (items kind line i).values vs (after_list (items kind line i).kind (items kind line i).stop) s
  unfolding listed
  list-given e = end-given (items kind line i).kind (items kind line i).values line (items kind line i).stop s vs e

  -- a list's values are of one kind
  pub list-one : listed kind line i ≡ given s vs → OneKind vs
  list-one e = subst OneKind (list-given e).values (taking-one kind (items kind line i).kind (items kind line i).values (taking-items (length line) line kind i))

-- and so are those that follow the operator
pub given-one : (line : List ℕ) (i : ℕ) (s : Reader) (vs : List Value) → given_at line i ≡ given s vs → OneKind vs
unfolding given_at
given-one line i s vs e = by (stands OPEN line i) (value_at line i) e
  where
    by : (b : Bool) (w : Result Word LineFault) → (if b then listed K.Empty line (i + 1) else alone line w) ≡ given s vs → OneKind vs
    by true w e = list-one K.Empty line (i + 1) s vs e
    by false (Ok (W.Number x k)) e = subst OneKind (rest-given (number x ∷ []) line k s vs e).values (one_value (number x))
    by false (Ok (W.String j n k)) e = subst OneKind (rest-given (string (undoubled (drop j line)) ∷ []) line k s vs e).values (one_value (string (undoubled (drop j line))))
    by false (Err q) e = let z : ◌≡◌ {A = ℕ} 0 1 = cc in absurd (omega arith)

-- ---- what is stored can be told

pub ready-stretches : (line : List ℕ) (pen : Pen) → Ready pen line → Stretches pen
ready-stretches line pen r = record { values = omega (arith, r.storable.values); bytes = omega (arith, r.storable.bytes) }

-- a value that is stored leaves the heads
pub stored-head : (v : Value) (p : Page) → ((stored_on v p).pen.heads ≡ p.pen.heads) × ((stored_on v p).pen.head ≡ p.pen.head)
stored-head (number x) p = (refl, refl)
stored-head (string s) p = (refl, refl)

pub one-tells : (line : List ℕ) (pen pen' : Pen) (m : List ℕ) (p : Page) → Ready pen line → page m pen' ≡ p → p.pen.heads ≡ pen.heads → p.pen.head ≡ pen.head → Tells pen' 1
one-tells line pen pen' m p r e h k = record {
  some = omega (arith, r.some, ap (λ (q : Page). q.pen.heads) e, h);
  head = omega (arith, r.head, ap (λ (q : Page). q.pen.head) e, k);
  few = omega arith;
}

-- no more values than the line has bytes
pub list_tells : (line : List ℕ) (pen : Pen) (m m' : List ℕ) (kind : Kind) (from : ℕ) (r : Stored) → Ready pen line → Stores kind line from (page m pen) r m' → Tells r.pen r.counted.given
list_tells line pen m m' kind from r d f =
    let is = items kind line from in
    let h = stored-heads is.values (page m pen) in
    let e : r.counted.given ≡ length is.values = ap (λ (x : Counted). x.given) f.count in
    record {
      some = omega (arith, d.some, ap (λ (q : Page). q.pen.heads) f.left, h.0);
      head = omega (arith, d.head, ap (λ (q : Page). q.pen.head) f.left, h.1);
      few = omega (arith, e, few-items (length line) line kind from, d.storable.long);
    }

-- ---- what is written of it

module _ (line : List ℕ) (pen told : Pen) (before mid after : List ℕ) where
  -- a list
  pub list-turns : (kind : Kind) (from : ℕ) (st : Stored) (r : Reader)
      → Stores kind line from (page before pen) st mid → page after told ≡ told_on (is_strings st.counted.kind) st.counted.given (page mid st.pen)
      → r ≡ after_list st.counted.kind st.counted.stop
      → Gives (listed kind line from) (page before pen) after (record { pen = told; reader = r })
  list-turns kind from st r f p q s vs e =
      let is = items kind line from in
      let g = list-given kind line from s vs e in
      record {
        left =
            p
            ∙ (λ i. told_on (is_strings (f.count i).kind) (f.count i).given (f.left i))
            ∙ told-kind kind is.kind is.values (stored_all is.values (page before pen)) (taking-items (length line) line kind from)
            ∙ ap (λ (us : List Value). given_on us (page before pen)) g.values;
        reader = q ∙ (λ i. after_list (f.count i).kind (f.count i).stop) ∙ g.reader;
      }

  -- one value alone
  alone-turns : (stored : Pen) (i : ℕ) (v : Value) (k : ℕ) → ((s : Reader) (vs : List Value) → given_at line i ≡ given s vs → rest (v ∷ []) line k ≡ given s vs)
      → page mid stored ≡ stored_on v (page before pen) → page after told ≡ told_on (any_string (v ∷ [])) 1 (page mid stored)
      → Gives (given_at line i) (page before pen) after (record { pen = told; reader = R.Data })
  unfolding stored_all
  alone-turns stored i v k f w p s vs e =
      let g = rest-given (v ∷ []) line k s vs (f s vs e) in
      record { left = p ∙ ap (told_on (any_string (v ∷ [])) 1) w ∙ ap (λ (us : List Value). given_on us (page before pen)) g.values; reader = g.reader }

  pub word-turns : (stored : Pen) (i : ℕ) (w : Word) → stands OPEN line i ≡ false → value_at line i ≡ Ok w
      → page mid stored ≡ stored_on (value_of line w) (page before pen) → page after told ≡ told_on (is_strings (kind_of w)) 1 (page mid stored)
      → Gives (given_at line i) (page before pen) after (record { pen = told; reader = R.Data })
  unfolding given_at
  word-turns stored i (W.Number x k) o v w p = alone-turns stored i (number x) k (λ s vs e. rw (o, v) at e) w p
  word-turns stored i (W.String j n k) o v w p = alone-turns stored i (string (undoubled (drop j line))) k (λ s vs e. rw (o, v) at e) w p

-- the values of a line that has a `(`
pub at_bracket : (line : List ℕ) (i : ℕ) (s : Reader) (vs : List Value) → stands OPEN line i ≡ true → given_at line i ≡ given s vs → listed K.Empty line (i + 1) ≡ given s vs
unfolding given_at
at_bracket line i s vs o e = rw o at e

-- no value stands there
pub no_value : {X : Type 0} (line : List ℕ) (i : ℕ) (f : LineFault) (s : Reader) (vs : List Value)
    → stands OPEN line i ≡ false → value_at line i ≡ Err f → given_at line i ≡ given s vs → X
unfolding given_at
no_value line i f s vs o v e =
    let a : wrong f.fault f.place ≡ given s vs = rw (o, v) at e in
    let z : ◌≡◌ {A = ℕ} 0 1 = cc in
    absurd (omega arith)
