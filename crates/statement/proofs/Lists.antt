-- A list's part in a line by its counted items: the counts stand for the values. Assumes nothing.
use Prim.Native.Nat.{ℕ, ◌+◌}
use mathlib.Core.Path.{◌≡◌, sym, ap}
use mathlib.Core.List.{List}
use lib.ListN.{length}
use Rattle.std.specs.Prelude.{Some, None, Ok, Err}
use Rattle.value.specs.Faults.{faulty}
use Rattle.value.specs.declared.faults.Fault.TheVariants as F
use Rattle.value.specs.declared.faults.LineFault.{LineFault}
use Rattle.statement.specs.Values.{bytes_in_all, items, tally, rest, listed, taken}
use Rattle.statement.specs.declared.values.Reader.TheVariants as R
use Rattle.statement.specs.declared.values.Counted.{Counted}
use Rattle.statement.specs.declared.values.Kind.{Kind}
use Rattle.statement.specs.declared.values.Kind.TheVariants as K

module _ (kind : Kind) (line : List ℕ) (i : ℕ) (c : Counted) (e : c ≡ tally (items kind line i)) where
  pub as_many : length (items kind line i).values ≡ c.given
  as_many = sym (ap (λ (x : Counted). x.given) e)

  pub as_long : bytes_in_all (items kind line i).values ≡ c.bytes
  as_long = sym (ap (λ (x : Counted). x.bytes) e)

  same_kind : (items kind line i).kind ≡ c.kind
  same_kind = sym (ap (λ (x : Counted). x.kind) e)

  pub same_stop : (items kind line i).stop ≡ c.stop
  same_stop = sym (ap (λ (x : Counted). x.stop) e)

  pub list-faulty : (f : LineFault) → c.stop ≡ Err f → Err f ≡ taken (listed kind line i)
  unfolding listed
  list-faulty f s = rw (same_stop, s)

  pub list_on : c.stop ≡ Ok None → Ok (record { reader = R.List c.kind; given = c.given; bytes = c.bytes }) ≡ taken (listed kind line i)
  unfolding listed
  list_on s = rw (same_stop, s, same_kind, as_many, as_long)

  module _ (k : ℕ) (s : c.stop ≡ Ok (Some k)) where
    pub list-empty : c.kind ≡ K.Empty → Err (faulty F.OpenList k) ≡ taken (listed kind line i)
    unfolding listed
    list-empty y = rw (same_stop, s, same_kind, y)

    pub list-numbers : c.kind ≡ K.Numbers → taken (rest (items kind line i).values line (k + 1)) ≡ taken (listed kind line i)
    unfolding listed
    list-numbers y = rw (same_stop, s, same_kind, y)

    pub list-strings : c.kind ≡ K.Strings → taken (rest (items kind line i).values line (k + 1)) ≡ taken (listed kind line i)
    unfolding listed
    list-strings y = rw (same_stop, s, same_kind, y)
