-- A list's values are stored one at a time: what is left to store onto this page is what was to be stored onto the first. Assumes nothing.
use Prim.Native.Nat.{ℕ, suc, ◌+◌, ◌*◌, ◌-◌, ◌≤◌, ◌<◌}
use native.Mathlib.Nat.{zero-add, add-zero}
use native.Mathlib.Omega.{arith}
use mathlib.Core.Path.{◌≡◌, refl, sym, ap, subst, ◌∙◌}
use mathlib.Core.List.{List}
use lib.ListN.{length}
use Rattle.std.specs.Prelude.{Option, None, Result, Ok}
use Rattle.value.specs.Strings.{STRING}
use Rattle.value.specs.Value.{Value, bytes_in, long_of, value_at}
use Rattle.statement.specs.Values.{bytes_in_all, item, Items, ended, further, items_up_to, items, tally}
use Rattle.statement.specs.Values as values
use Rattle.statement.specs.declared.values.Item.{Item}
use Rattle.statement.specs.declared.values.Kind.{Kind}
use Rattle.value.specs.declared.faults.LineFault.{LineFault}
use Rattle.value.specs.declared.Word.{Word}
use Rattle.value.specs.declared.Word.TheVariants as W
use Rattle.statement.specs.declared.values.Item.TheVariants as I
use Rattle.decimal.proofs.Bounded.{reading-no-nan}
use Rattle.value.proofs.Found.{StringRead, value-number, value-string}
use Rattle.statement.proofs.Found.{item-number, item-string}
use Rattle.statement.proofs.Items.{with_items, none_yet, turn}
use Rattle.layout.specs.Limits.{BYTES_AT, BYTES, LONGEST_LOAD}
use Rattle.page.specs.Writing.{Page, page, stored_on, stored_all}
use Rattle.page.specs.Pens.{Stretches, Quoted}
use Rattle.writing.specs.Pens.{Storable, Found, Stores, stopped}
use Rattle.page.specs.declared.pen.Pen.{Pen}
use Rattle.writing.specs.declared.give.Stored.{Stored}
use Rattle.page.proofs.Pages.{stored-values, stored_bytes}

-- a string that is read opens in its line
pub quoted : (line : List ℕ) (s n k : ℕ) → StringRead line s n k → Quoted line s n
quoted line s n k r = record { inside = omega (arith, r.takes, r.stays); bytes = r.bytes; short = r.short }

-- a value that is read can be stored
pub found-value : (line : List ℕ) (i : ℕ) (w : Word) → value_at line i ≡ Ok w → Found line w
found-value line i (W.Number x k) e = reading-no-nan _ x (value-number line i x k e).1.read
found-value line i (W.String s n k) e = quoted line s n k (value-string line i s n k e).2

-- and so can one of a list, which has 60 bytes at most
pub found-item : (kind : Kind) (line : List ℕ) (i : ℕ) (w : Word) → item kind line i ≡ Ok (I.Value w) → Found line w
found-item kind line i (W.Number x k) e = reading-no-nan _ x (item-number kind line i x k e).1.read
found-item kind line i (W.String s n k) e = quoted line s n k (item-string kind line i s n k e).2

pub short-item : (kind : Kind) (line : List ℕ) (i : ℕ) (w : Word) → item kind line i ≡ Ok (I.Value w) → long_of w ≤ STRING
short-item kind line i (W.Number x k) e = omega arith
short-item kind line i (W.String s n k) e = (item-string kind line i s n k e).2.short

-- ---- the items that are left, by the next one

pub none_left : (line : List ℕ) (kind : Kind) (i left : ℕ) → left ≡ 0 → items_up_to left line kind i ≡ ended kind (Ok None)
unfolding items_up_to
none_left line kind i left e = rw e

pub next-left : (line : List ℕ) (kind : Kind) (i left : ℕ) → 0 < left → (next : Result Item LineFault) → next ≡ item kind line i → (known : Result Item LineFault) → next ≡ known
    → items_up_to left line kind i ≡ further kind line known (items_up_to (left - 1) line)
next-left line kind i left h next e known q = turn line kind i left h ∙ ap (λ (m : Result Item LineFault). further kind line m (items_up_to (left - 1) line)) (sym e ∙ q)

-- ---- the loop

-- after so many values with so many bytes, the next value looked for at i among at most `left`, the list having `kind`
pub record Storing (first : Kind) (line : List ℕ) (from : ℕ) (start : Page) (pen : Pen) (kind : Kind) (i given bytes left : ℕ) (m : List ℕ) : Type 0 where
  pub few : given + left ≡ length line
  pub count : with_items given bytes (items_up_to left line kind i) ≡ tally (items first line from)
  pub leaves : stored_all (items_up_to left line kind i).values (page m pen) ≡ stored_all (items first line from).values start
  pub values : pen.values ≤ BYTES_AT + given
  pub strings : pen.bytes ≤ BYTES + STRING * given
  pub short : bytes ≤ STRING * given

module _ (first : Kind) (line : List ℕ) (from : ℕ) where
  pub at_first : (m : List ℕ) (pen : Pen) → Storable pen line → Storing first line from (page m pen) pen first from 0 0 (length line) m
  at_first m pen s = record {
    few = zero-add (length line);
    count = none_yet (items first line from);
    leaves = refl;
    values = omega (arith, s.values);
    strings = omega (arith, s.bytes);
    short = omega arith;
  }

  module _ (start : Page) (pen : Pen) (kind : Kind) (i given bytes left : ℕ) (m : List ℕ) (f : Storing first line from start pen kind i given bytes left m) where
    -- one value more can be stored
    pub stretches : length line ≤ LONGEST_LOAD → Stretches pen
    stretches h = record { values = omega (arith, f.values, f.few); bytes = omega (arith, f.strings, f.few) }

    pub at_last : (s : Result (Option ℕ) LineFault) → items_up_to left line kind i ≡ ended kind s → (r : Stored) → r ≡ stopped pen kind given bytes s → Stores first line from start r m
    unfolding stored_all
    at_last s e r q =
        let z : with_items given bytes (ended kind s) ≡ record { kind = kind; given = given; bytes = bytes; stop = s } = rw (add-zero given, add-zero bytes) in
        let c : with_items given bytes (ended kind s) ≡ tally (items first line from) = rw e at f.count in
        let p : page m pen ≡ stored_all (items first line from).values start = rw e at f.leaves in
        subst (λ (x : Stored). Stores first line from start x m) (sym q) (record { count = sym z ∙ c; left = p })

    -- a value is stored, and after it the list has kind d
    pub one_more : (v : Value) (d : Kind) (k : ℕ) → 0 < left → items_up_to left line kind i ≡ values.with_value v (items_up_to (left - 1) line d k)
        → (t : ℕ) → t ≡ bytes + bytes_in v → bytes_in v ≤ STRING
        → (m' : List ℕ) (pen' : Pen) → page m' pen' ≡ stored_on v (page m pen)
        → Storing first line from start pen' d k (given + 1) t (left - 1) m'
    unfolding stored_all
    one_more v d k h e t b s m' pen' p =
        let is = items_up_to (left - 1) line d k in
        let z : given + 1 + length is.values ≡ given + suc (length is.values) = omega arith in
        let y : t + bytes_in_all is.values ≡ bytes + (bytes_in v + bytes_in_all is.values) = omega (arith, b) in
        let c : with_items (given + 1) t is ≡ with_items given bytes (values.with_value v is) = λ i. record { kind = is.kind; given = z i; bytes = y i; stop = is.stop } in
        let nv : pen'.values ≡ pen.values + 1 = ap (λ (q : Page). q.pen.values) p ∙ stored-values v (page m pen) in
        let nb : pen'.bytes ≡ pen.bytes + bytes_in v = ap (λ (q : Page). q.pen.bytes) p ∙ stored_bytes v (page m pen) in
        record {
          few = omega (arith, f.few);
          count = c ∙ sym (ap (with_items given bytes) e) ∙ f.count;
          leaves = ap (stored_all is.values) p ∙ sym (ap (λ (x : Items). stored_all x.values (page m pen)) e) ∙ f.leaves;
          values = omega (arith, f.values, nv);
          strings = omega (arith, f.strings, nb, s);
          short = omega (arith, f.short, b, s);
        }
