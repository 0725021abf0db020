-- A line gives no more values, and no more bytes in strings, than it has bytes. Assumes nothing.
use Prim.Native.Nat.{ℕ, zero, suc, ◌+◌, ◌-◌, ◌≤◌, ◌<◌}
use native.Mathlib.Omega.{arith}
use mathlib.Core.Path.{◌≡◌, refl}
use mathlib.Core.Bool.{Bool, true, false}
use mathlib.Core.List.{List, [], ◌∷◌}
use lib.Dec.{ltb}
use lib.ListN.{length, drop}
use Rattle.plain.specs.Bytes.{OPEN}
use Rattle.std.specs.Prelude.{Option, Some, None, Result, Ok, Err, if◌then◌else◌}
use Rattle.plain.specs.Runs.{past}
use Rattle.value.specs.Classes.{blank, stands}
use Rattle.value.specs.Strings.{undoubled}
use Rattle.value.specs.Value.{Value, number, string, value_at}
use Rattle.value.specs.declared.faults.Fault.TheVariants as F
use Rattle.value.specs.declared.faults.LineFault.{LineFault}
use Rattle.value.specs.declared.Word.{Word}
use Rattle.value.specs.declared.Word.TheVariants as W
use Rattle.value.proofs.Found.{value-string}
use Rattle.statement.specs.Values.{bytes_in_all, Given, given, wrong, item, further, items_up_to, items, rest, list_end, listed, alone, given_at}
use Rattle.statement.specs.declared.values.Reader.TheVariants as R
use Rattle.statement.specs.declared.values.Item.{Item}
use Rattle.statement.specs.declared.values.Item.TheVariants as I
use Rattle.statement.specs.declared.values.Kind.{Kind}
use Rattle.statement.specs.declared.values.Kind.TheVariants as K
use Rattle.statement.proofs.Found.{item-string, number-on}

-- at most n values
abbrev pub Most : ℕ → List Value → Type 0
Most n vs = (length vs ≤ n) × (bytes_in_all vs ≤ n)

abbrev pub MostGiven : ℕ → Given → Type 0
MostGiven n (given r vs) = Most n vs
MostGiven n (wrong q k) = Unit

-- no more items than were looked for
pub few-items : (n : ℕ) (line : List ℕ) (kind : Kind) (i : ℕ) → length (items_up_to n line kind i).values ≤ n
unfolding items_up_to
few-items zero line kind i = omega arith
few-items (suc n) line kind i = by (item kind line i) (few-items n line)
  where
    by : (m : Result Item LineFault) → ((d : Kind) (j : ℕ) → length (items_up_to n line d j).values ≤ n) → length (further kind line m (items_up_to n line)).values ≤ suc n
    by (Ok I.End) f = omega arith
    by (Ok (I.Close k)) f = omega arith
    by (Ok (I.Value (W.Number x k))) f = omega (arith, f K.Numbers k)
    by (Ok (I.Value (W.String s l k))) f = omega (arith, f K.Strings k)
    by (Err f') f = omega arith

-- no more bytes than from a place on
few_bytes : (n : ℕ) (line : List ℕ) (kind : Kind) (i : ℕ) → bytes_in_all (items_up_to n line kind i).values ≤ length line - i
unfolding items_up_to
few_bytes zero line kind i = omega arith
few_bytes (suc n) line kind i = by (item kind line i) refl (few_bytes n line)
  where
    by : (m : Result Item LineFault) → item kind line i ≡ m → ((d : Kind) (j : ℕ) → bytes_in_all (items_up_to n line d j).values ≤ length line - j)
        → bytes_in_all (further kind line m (items_up_to n line)).values ≤ length line - i
    by (Ok I.End) e f = omega arith
    by (Ok (I.Close k)) e f = omega arith
    by (Ok (I.Value (W.Number x k))) e f = omega (arith, f K.Numbers k, number-on kind line i x k e)
    by (Ok (I.Value (W.String s l k))) e f =
        let r = item-string kind line i s l k e in
        omega (arith, f K.Strings k, r.1, r.2.bytes, r.2.takes, r.2.stays)
    by (Err f') e f = omega arith

most-rest : (n : ℕ) (vs : List Value) (line : List ℕ) (i : ℕ) → Most n vs → MostGiven n (rest vs line i)
unfolding rest
most-rest n vs line i h = by (ltb (past blank line i) (length line))
  where
    by : (t : Bool) → MostGiven n (if t then wrong F.RestOfLine (past blank line i) else given R.Data vs)
    by true = tt
    by false = h

most-end : (n : ℕ) (kind : Kind) (vs : List Value) (line : List ℕ) (s : Result (Option ℕ) LineFault) → Most n vs → MostGiven n (list_end kind vs line s)
most-end n kind vs line (Ok None) h = h
most-end n kind vs line (Err f) h = tt
most-end n K.Empty vs line (Ok (Some k)) h = tt
most-end n K.Numbers vs line (Ok (Some k)) h = most-rest n vs line (k + 1) h
most-end n K.Strings vs line (Ok (Some k)) h = most-rest n vs line (k + 1) h

pub most-listed : (kind : Kind) (line : List ℕ) (i : ℕ) → MostGiven (length line) (listed kind line i)
unfolding listed
most-listed kind line i =
    let is = items kind line i in
    most-end (length line) is.kind is.values line is.stop (few-items (length line) line kind i, omega (arith, few_bytes (length line) line kind i))

most-alone : (line : List ℕ) (i : ℕ) (w : Result Word LineFault) → value_at line i ≡ w → 0 < length line → MostGiven (length line) (alone line w)
most-alone line i (Ok (W.Number x k)) e h = most-rest (length line) (number x ∷ []) line k (omega arith, omega arith)
most-alone line i (Ok (W.String s n k)) e h =
    let r = value-string line i s n k e in
    most-rest (length line) (string (undoubled (drop s line)) ∷ []) line k (omega arith, omega (arith, r.2.bytes, r.2.takes, r.2.stays))
most-alone line i (Err f) e h = tt

pub most-given : (line : List ℕ) (i : ℕ) → 0 < length line → MostGiven (length line) (given_at line i)
unfolding given_at
most-given line i h = by (stands OPEN line i)
  where
    by : (t : Bool) → MostGiven (length line) (if t then listed K.Empty line (i + 1) else alone line (value_at line i))
    by true = most-listed K.Empty line (i + 1)
    by false = most-alone line i (value_at line i) refl h
