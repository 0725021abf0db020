-- What is known of a value that a list has next: the list takes its kind, it stands in the line, and the place after it is past the
-- place where it was looked for. Assumes nothing.
use Prim.Native.Nat.{ℕ, ◌+◌, ◌≤◌, ◌<◌, max}
use native.Mathlib.Omega.{arith}
use mathlib.Core.Path.{◌≡◌, refl, sym, ap, ◌∙◌}
use mathlib.Core.Bool.{Bool, true, false}
use mathlib.Core.List.{List}
use lib.Dec.{ltb}
use lib.Ieee.{Float}
use lib.ListN.{length}
use Rattle.plain.specs.Bytes.{QUOTE, CLOSE}
use Rattle.std.specs.Prelude.{Result, Ok, Err, if◌then◌else◌}
use Rattle.plain.specs.Runs.{past}
use Rattle.plain.proofs.Places.{past_after}
use Rattle.value.specs.Classes.{separator, stands}
use Rattle.value.specs.Value.{bytes_in, value_of, end_of, long_of, value_at}
use Rattle.value.specs.declared.Word.{Word}
use Rattle.value.specs.declared.Word.TheVariants as W
use Rattle.value.specs.Faults.{faulty}
use Rattle.value.specs.declared.faults.Fault.TheVariants as F
use Rattle.value.specs.declared.faults.LineFault.{LineFault}
use Rattle.value.proofs.Found.{StringRead, NumberRead, number-takes, value-number, value-string}
use Rattle.statement.specs.Values.{admits, list_value, as_item, item}
use Rattle.statement.specs.declared.values.Item.TheVariants as I
use Rattle.statement.specs.declared.values.Kind.{Kind}

from-admitted : (t : Bool) (i : ℕ) (r : Result Word LineFault) (w : Word) → (if t then r else Err (faulty F.BadValue i)) ≡ Ok w → (t ≡ true) × (r ≡ Ok w)
from-admitted true i r w e = (refl, e)
from-admitted false i r w e = let z : ◌≡◌ {A = ℕ} 0 1 = cc in absurd (omega arith)

from-item : (t s : Bool) (i : ℕ) (r : Result Word LineFault) (w : Word) → (if t then (if s then Ok (I.Close i) else as_item r) else Ok I.End) ≡ Ok (I.Value w) → r ≡ Ok w
from-item true true i r w q = let z : ◌≡◌ {A = ℕ} 0 1 = cc in absurd (omega arith)
from-item true false i (Ok v) w q = cc
from-item true false i (Err f) w q = let z : ◌≡◌ {A = ℕ} 0 1 = cc in absurd (omega arith)
from-item false s i r w q = let z : ◌≡◌ {A = ℕ} 0 1 = cc in absurd (omega arith)

module _ (kind : Kind) (line : List ℕ) (i : ℕ) where
  -- a number of a list is what some bytes of the line are read as, and the list takes numbers
  pub item-number : (x : Float) (k : ℕ) → item kind line i ≡ Ok (I.Value (W.Number x k)) → (admits kind false ≡ true) × NumberRead line (past separator line i) x k
  unfolding item list_value
  item-number x k e =
      let p = past separator line i in
      let w = from-item (ltb p (length line)) (stands CLOSE line p) p (list_value kind line p) (W.Number x k) e in
      let a = from-admitted (admits kind (stands QUOTE line p)) p (value_at line p) (W.Number x k) w in
      let v = value-number line p x k a.1 in
      (ap (admits kind) (sym v.0) ∙ a.0, v.1)

  -- a string of a list stands in the line, and the list takes strings
  pub item-string : (s n k : ℕ) → item kind line i ≡ Ok (I.Value (W.String s n k)) → (admits kind true ≡ true) × (i ≤ s) × StringRead line s n k
  unfolding item list_value
  item-string s n k e =
      let p = past separator line i in
      let w = from-item (ltb p (length line)) (stands CLOSE line p) p (list_value kind line p) (W.String s n k) e in
      let a = from-admitted (admits kind (stands QUOTE line p)) p (value_at line p) (W.String s n k) w in
      let v = value-string line p s n k a.1 in
      (ap (admits kind) (sym v.0) ∙ a.0, omega (arith, past_after separator line i, v.1), v.2)

-- how many bytes it has
pub item-long : (kind : Kind) (line : List ℕ) (i : ℕ) (w : Word) → item kind line i ≡ Ok (I.Value w) → bytes_in (value_of line w) ≡ long_of w
item-long kind line i (W.Number x k) e = refl
item-long kind line i (W.String s n k) e = (item-string kind line i s n k e).2.bytes

-- the place after it
pub number-on : (kind : Kind) (line : List ℕ) (i : ℕ) (x : Float) (k : ℕ) → item kind line i ≡ Ok (I.Value (W.Number x k)) → i < k
number-on kind line i x k q = omega (arith, past_after separator line i, number-takes line (past separator line i) x k (item-number kind line i x k q).1)

pub string-on : (kind : Kind) (line : List ℕ) (i s n k : ℕ) → item kind line i ≡ Ok (I.Value (W.String s n k)) → i + n < k
string-on kind line i s n k q =
    let w = item-string kind line i s n k q in
    omega (arith, w.1, w.2.takes)

pub value-on : (kind : Kind) (line : List ℕ) (i : ℕ) (w : Word) → item kind line i ≡ Ok (I.Value w) → i + long_of w < end_of w
value-on kind line i (W.Number x k) q = omega (arith, number-on kind line i x k q)
value-on kind line i (W.String s n k) q = string-on kind line i s n k q

-- so that bytes counted before it and its own are no more than the line has, or than were counted
pub value-stays : (kind : Kind) (line : List ℕ) (i : ℕ) (w : Word) → item kind line i ≡ Ok (I.Value w) → (b : ℕ) → b ≤ i → b + long_of w ≤ max b (length line)
value-stays kind line i (W.Number x k) q b h = omega arith
value-stays kind line i (W.String s n k) q b h = omega (arith, string-on kind line i s n k q, (item-string kind line i s n k q).2.stays)
