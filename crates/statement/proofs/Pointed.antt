-- Every fault of a statement points into its line, or one past it where nothing is there: a value is looked for at a place that no byte
-- before it takes out of the line, and all else that is faulty stands in the line. Assumes nothing.
use Prim.Native.Nat.{ℕ, zero, suc, ◌+◌, ◌-◌, ◌≤◌, ◌<◌}
use native.Mathlib.Omega.{arith}
use mathlib.Core.Path.{◌≡◌, refl, sym}
use mathlib.Core.Bool.{Bool, true, false, ◌&&◌}
use mathlib.Core.List.{List, [], ◌∷◌}
use borrow.Author.Tests.{ltb-true}
use lib.Dec.{ltb, lit<}
use lib.ListN.{length, drop}
use Rattle.plain.specs.Bytes.{PLUS, EQUALS, QUOTE, OPEN, CLOSE, within}
use Rattle.std.specs.Prelude.{Option, Some, None, Result, Ok, Err, if◌then◌else◌}
use Rattle.plain.specs.Runs.{past}
use Rattle.plain.proofs.Places.{past-within}
use Rattle.plain.proofs.Tests.{both}
use Rattle.value.specs.Classes.{blank, name_byte, separator, stands}
use Rattle.value.specs.Strings.{undoubled}
use Rattle.value.specs.Value.{Value, number, string, value_at}
use Rattle.value.specs.declared.Word.{Word}
use Rattle.value.specs.declared.Word.TheVariants as W
use Rattle.value.specs.declared.faults.Fault.TheVariants as F
use Rattle.value.specs.declared.faults.LineFault.{LineFault}
use Rattle.value.proofs.Standing.{stands-within}
use Rattle.value.proofs.Starts.{FaultAt, value-starts}
use Rattle.value.specs.Faults.{faulty}
use Rattle.statement.specs.Head.{NAME, named, head_operated, head_named, opening, head}
use Rattle.statement.specs.Values.{admits, list_value, as_item, item, further, items_up_to, items, Given, given, wrong, rest, list_end, listed, alone, given_at}
use Rattle.statement.specs.declared.head.Named.{Named}
use Rattle.statement.specs.declared.head.Operator.TheVariants as O
use Rattle.statement.specs.declared.values.Item.{Item}
use Rattle.statement.specs.declared.values.Item.TheVariants as I
use Rattle.statement.specs.declared.values.Kind.{Kind}
use Rattle.statement.specs.declared.values.Kind.TheVariants as K
use Rattle.statement.specs.declared.values.Reader.TheVariants as R

-- ---- the head

-- the place where a head's values start, or that of its fault, is n at most
abbrev pub HeadUpTo : ℕ → Result (Option Named) LineFault → Type 0
HeadUpTo n (Ok None) = Unit
HeadUpTo n (Ok (Some h)) = h.at ≤ n
HeadUpTo n (Err f) = f.place ≤ n

module _ (line : List ℕ) where
  operated-within : (n e i : ℕ) → i ≤ length line → HeadUpTo (length line) (opening (head_operated line n e i))
  operated-within n e i h = by (stands EQUALS line i) (stands PLUS line i && stands EQUALS line (i + 1)) refl refl
    where
      after : (j : ℕ) → stands EQUALS line j ≡ true → past blank line (j + 1) ≤ length line
      after j s = past-within blank line (j + 1) (omega (arith, stands-within EQUALS line j true (lit< tt) (sym s) refl))

      by : (t u : Bool) → stands EQUALS line i ≡ t → stands PLUS line i && stands EQUALS line (i + 1) ≡ u
          → HeadUpTo (length line) (opening (if t then Ok (named n e O.Direct (past blank line (i + 1))) else (if u then Ok (named n e O.Append (past blank line (i + 2))) else Err (faulty F.NoOperator i))))
      by true u s p = after i s
      by false true s p =
          let z : i + 1 + 1 ≡ i + 2 = omega arith in
          rw z at (after (i + 1) (both (stands PLUS line i) (stands EQUALS line (i + 1)) p).1)
      by false false s p = h

  named-within : (n : ℕ) → n < length line → HeadUpTo (length line) (opening (head_named line n (past name_byte line n)))
  named-within n h = by (within 1 NAME (e - n))
    where
      e : ℕ
      e = past name_byte line n

      by : (t : Bool) → HeadUpTo (length line) (opening (if t then head_operated line n e (past blank line e) else Err (faulty F.BadName n)))
      by true = operated-within n e (past blank line e) (past-within blank line e (past-within name_byte line n (omega arith)))
      by false = omega arith

  pub head-within : HeadUpTo (length line) (head line)
  unfolding head
  head-within = by (ltb (past blank line 0) (length line)) refl
    where
      n : ℕ
      n = past blank line 0

      by : (t : Bool) → ltb n (length line) ≡ t → HeadUpTo (length line) (if t then opening (head_named line n (past name_byte line n)) else Ok None)
      by true e = named-within n (ltb-true n (length line) e)
      by false e = tt

-- ---- a list's values

-- a list's `)`, or its fault, stands at a place below n
abbrev ItemIn : ℕ → Result Item LineFault → Type 0
ItemIn n (Ok I.End) = Unit
ItemIn n (Ok (I.Close k)) = k < n
ItemIn n (Ok (I.Value w)) = Unit
ItemIn n (Err f) = f.place < n

abbrev StopIn : ℕ → Result (Option ℕ) LineFault → Type 0
StopIn n (Ok None) = Unit
StopIn n (Ok (Some k)) = k < n
StopIn n (Err f) = f.place < n

-- a fault's place is n at most
abbrev pub GivenUpTo : ℕ → Given → Type 0
GivenUpTo n (given r vs) = Unit
GivenUpTo n (wrong q k) = k ≤ n

module _ (line : List ℕ) where
  listed-starts : (kind : Kind) (i : ℕ) → FaultAt i (list_value kind line i)
  unfolding list_value
  listed-starts kind i = by (admits kind (stands QUOTE line i))
    where
      by : (t : Bool) → FaultAt i (if t then value_at line i else Err (faulty F.BadValue i))
      by true = value-starts line i
      by false = refl

  as-item-within : (r : Result Word LineFault) (i : ℕ) → i < length line → FaultAt i r → ItemIn (length line) (as_item r)
  as-item-within (Ok w) i h f = tt
  as-item-within (Err q) i h f = omega (arith, f)

  item-within : (kind : Kind) (i : ℕ) → ItemIn (length line) (item kind line i)
  unfolding item
  item-within kind i = by (ltb p (length line)) (stands CLOSE line p) refl
    where
      p : ℕ
      p = past separator line i

      by : (t u : Bool) → ltb p (length line) ≡ t → ItemIn (length line) (if t then (if u then Ok (I.Close p) else as_item (list_value kind line p)) else Ok I.End)
      by true true e = ltb-true p (length line) e
      by true false e = as-item-within (list_value kind line p) p (ltb-true p (length line) e) (listed-starts kind p)
      by false u e = tt

  stop-within : (n : ℕ) (kind : Kind) (i : ℕ) → StopIn (length line) (items_up_to n line kind i).stop
  unfolding items_up_to
  stop-within zero kind i = tt
  stop-within (suc n) kind i = by (item kind line i) (item-within kind i) (stop-within n)
    where
      by : (m : Result Item LineFault) → ItemIn (length line) m → ((d : Kind) (j : ℕ) → StopIn (length line) (items_up_to n line d j).stop)
          → StopIn (length line) (further kind line m (items_up_to n line)).stop
      by (Ok I.End) h f = tt
      by (Ok (I.Close k)) h f = h
      by (Ok (I.Value (W.Number x k))) h f = f K.Numbers k
      by (Ok (I.Value (W.String s l k))) h f = f K.Strings k
      by (Err f') h f = h

  -- the `)` that ends a list's values stands in the line
  pub closes-within : (n : ℕ) (kind : Kind) (i k : ℕ) → (items_up_to n line kind i).stop ≡ Ok (Some k) → k < length line
  closes-within n kind i k e = rw e at (stop-within n kind i)

  -- ---- what a statement is given

  rest-within : (vs : List Value) (i : ℕ) → GivenUpTo (length line) (rest vs line i)
  unfolding rest
  rest-within vs i = by (ltb (past blank line i) (length line)) refl
    where
      by : (t : Bool) → ltb (past blank line i) (length line) ≡ t → GivenUpTo (length line) (if t then wrong F.RestOfLine (past blank line i) else given R.Data vs)
      by true e = omega (arith, ltb-true (past blank line i) (length line) e)
      by false e = tt

  end-within : (kind : Kind) (vs : List Value) (s : Result (Option ℕ) LineFault) → StopIn (length line) s → GivenUpTo (length line) (list_end kind vs line s)
  end-within kind vs (Ok None) h = tt
  end-within kind vs (Err f) h = omega arith
  end-within K.Empty vs (Ok (Some k)) h = omega arith
  end-within K.Numbers vs (Ok (Some k)) h = rest-within vs (k + 1)
  end-within K.Strings vs (Ok (Some k)) h = rest-within vs (k + 1)

  pub listed-within : (kind : Kind) (i : ℕ) → GivenUpTo (length line) (listed kind line i)
  unfolding listed
  listed-within kind i = let is = items kind line i in end-within is.kind is.values is.stop (stop-within (length line) kind i)

  alone-within : (r : Result Word LineFault) (i : ℕ) → i ≤ length line → FaultAt i r → GivenUpTo (length line) (alone line r)
  alone-within (Ok (W.Number x k)) i h f = rest-within (number x ∷ []) k
  alone-within (Ok (W.String s n k)) i h f = rest-within (string (undoubled (drop s line)) ∷ []) k
  alone-within (Err q) i h f = omega (arith, f)

  pub given-within : (i : ℕ) → i ≤ length line → GivenUpTo (length line) (given_at line i)
  unfolding given_at
  given-within i h = by (stands OPEN line i)
    where
      by : (t : Bool) → GivenUpTo (length line) (if t then listed K.Empty line (i + 1) else alone line (value_at line i))
      by true = listed-within K.Empty (i + 1)
      by false = alone-within (value_at line i) i h (value-starts line i)
