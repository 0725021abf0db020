-- A line gives a statement values of one kind, and after them a list has that kind. Assumes nothing.
use Prim.Native.Nat.{ℕ, zero, suc}
use mathlib.Core.Path.{◌≡◌, refl, sym, ap, ◌∙◌}
use mathlib.Core.Bool.{Bool, true, false, false≢true}
use mathlib.Core.List.{List, [], ◌∷◌}
use lib.ListN.{length}
use Rattle.std.specs.Prelude.{Result, Ok, Err}
use Rattle.value.specs.Value.{Value, number, string}
use Rattle.value.specs.declared.faults.LineFault.{LineFault}
use Rattle.value.specs.declared.Word.TheVariants as W
use Rattle.statement.specs.Values.{item, further, items_up_to}
use Rattle.statement.specs.declared.values.Item.{Item}
use Rattle.statement.specs.declared.values.Item.TheVariants as I
use Rattle.statement.specs.declared.values.Kind.{Kind}
use Rattle.statement.specs.declared.values.Kind.TheVariants as K
use Rattle.statement.proofs.Found.{item-number, item-string}
use Rattle.statement.proofs.OneKind.{Taking}
use Rattle.page.specs.Writing.{Page, told_on, any_string}
use Rattle.page.specs.Pens.{is_strings}
use Rattle.page.proofs.Alike.{is_string, Alike, any-alike}

-- values of one kind
pub record OneKind (vs : List Value) : Type 0 where
  pub strings : Bool
  pub alike : Alike strings vs

pub one_value : (v : Value) → OneKind (v ∷ [])
one_value v = record { strings = is_string v; alike = (refl, tt) }

-- ---- what a list takes

numbers-alike : (vs : List Value) (k : Kind) → Taking K.Numbers vs k → Alike false vs × (is_strings k ≡ false)
numbers-alike [] k f = (tt, ap is_strings (sym f))
numbers-alike (number x ∷ vs) k f = let r = numbers-alike vs k f.1 in ((refl, r.0), r.1)
numbers-alike (string s ∷ vs) k f = absurd (false≢true f.0)

strings-alike : (vs : List Value) (k : Kind) → Taking K.Strings vs k → Alike true vs × (is_strings k ≡ true)
strings-alike [] k f = (tt, ap is_strings (sym f))
strings-alike (number x ∷ vs) k f = absurd (false≢true f.0)
strings-alike (string s ∷ vs) k f = let r = strings-alike vs k f.1 in ((refl, r.0), r.1)

module _ (j k : Kind) where
  pub taking-one : (vs : List Value) → Taking j vs k → OneKind vs
  taking-one [] f = record { strings = false; alike = tt }
  taking-one (number x ∷ vs) f = record { strings = false; alike = (refl, (numbers-alike vs k f.1).0) }
  taking-one (string s ∷ vs) f = record { strings = true; alike = (refl, (strings-alike vs k f.1).0) }

  -- what a list has after values tells their kind
  pub told-kind : (vs : List Value) (p : Page) → Taking j vs k → told_on (is_strings k) (length vs) p ≡ told_on (any_string vs) (length vs) p
  unfolding told_on
  told-kind [] p f = refl
  told-kind (number x ∷ vs) p f =
      let r = numbers-alike vs k f.1 in
      ap (λ (b : Bool). told_on b (length (number x ∷ vs)) p) (r.1 ∙ sym (any-alike false (number x) vs (refl, r.0)))
  told-kind (string s ∷ vs) p f = ap (λ (b : Bool). told_on b (length (string s ∷ vs)) p) (strings-alike vs k f.1).1

-- a list takes its values from a line
pub taking-items : (n : ℕ) (line : List ℕ) (j : Kind) (i : ℕ) → Taking j (items_up_to n line j i).values (items_up_to n line j i).kind
unfolding items_up_to
taking-items zero line j i = refl
taking-items (suc n) line j i = by (item j line i) refl (taking-items n line)
  where
    by : (m : Result Item LineFault) → item j line i ≡ m → ((d : Kind) (k : ℕ) → Taking d (items_up_to n line d k).values (items_up_to n line d k).kind)
        → Taking j (further j line m (items_up_to n line)).values (further j line m (items_up_to n line)).kind
    by (Ok I.End) e f = refl
    by (Ok (I.Close k)) e f = refl
    by (Err q) e f = refl
    by (Ok (I.Value (W.Number x k))) e f = ((item-number j line i x k e).0, f K.Numbers k)
    by (Ok (I.Value (W.String s l k))) e f = ((item-string j line i s l k e).0, f K.Strings k)
