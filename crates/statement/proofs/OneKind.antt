-- What holds of every value that is read holds of all that a statement is given, and these are of one kind. Assumes nothing.
use Prim.Native.Nat.{ℕ, zero, suc, ◌+◌, ◌≤◌}
use native.Mathlib.Omega.{arith}
use mathlib.Core.Path.{◌≡◌, refl, sym}
use mathlib.Core.Bool.{Bool, true, false, false≢true}
use mathlib.Core.List.{List, [], ◌∷◌, ◌++◌}
use lib.Dec.{ltb}
use lib.Ieee.{Float, binary64, to_bits}
use lib.ListN.{length, drop}
use Rattle.plain.specs.Bytes.{OPEN, fair}
use Rattle.std.specs.Prelude.{Option, Some, None, Result, Ok, Err, if◌then◌else◌}
use Rattle.plain.specs.Runs.{run, past}
use Rattle.plain.proofs.Each.{Each}
use Rattle.decimal.specs.Class.{reading}
use Rattle.decimal.specs.declared.Reading.TheVariants as D
use Rattle.value.specs.Classes.{blank, separator, value_byte, stands}
use Rattle.value.specs.Strings.{STRING, undoubled}
use Rattle.value.specs.Value.{Value, number, string, value_at}
use Rattle.value.specs.declared.faults.Fault.TheVariants as F
use Rattle.value.specs.declared.faults.LineFault.{LineFault}
use Rattle.value.specs.declared.Word.{Word}
use Rattle.value.specs.declared.Word.TheVariants as W
use Rattle.value.proofs.Found.{value-number, value-string, StringRead}
use Rattle.value.proofs.Quotes.{each-undoubled}
use Rattle.statement.specs.Statements.{Values, numbers, strings, how_many, how_long, joined_length, numbers_in, strings_in, of_one_kind}
use Rattle.statement.specs.Values.{bytes_in_all, Given, given, wrong, admits, item, further, items_up_to, items, rest, list_end, listed, alone, given_at}
use Rattle.statement.specs.declared.values.Reader.{Reader}
use Rattle.statement.specs.declared.values.Reader.TheVariants as R
use Rattle.statement.specs.declared.values.Item.{Item}
use Rattle.statement.specs.declared.values.Item.TheVariants as I
use Rattle.statement.specs.declared.values.Kind.{Kind}
use Rattle.statement.specs.declared.values.Kind.TheVariants as K
use Rattle.statement.proofs.Found.{item-number, item-string}

-- ---- what a list has, from before some values to after them

abbrev pub Taking : Kind → List Value → Kind → Type 0
Taking j [] k = j ≡ k
Taking j (number x ∷ vs) k = (admits j false ≡ true) × Taking K.Numbers vs k
Taking j (string s ∷ vs) k = (admits j true ≡ true) × Taking K.Strings vs k

abbrev pub Full : Kind → Type 0
Full K.Empty = ⊥
Full K.Numbers = Unit
Full K.Strings = Unit

pub taking-append : (i j k : Kind) (vs ws : List Value) → Taking i vs j → Taking j ws k → Taking i (vs ++ ws) k
taking-append i j k [] ws f g = rw (sym f) at g
taking-append i j k (number x ∷ vs) ws f g = (f.0, taking-append K.Numbers j k vs ws f.1 g)
taking-append i j k (string s ∷ vs) ws f g = (f.0, taking-append K.Strings j k vs ws f.1 g)

-- after numbers come numbers, and after strings strings
numbers-only : (vs : List Value) (k : Kind) → Taking K.Numbers vs k → (length (numbers_in vs) ≡ length vs) × (bytes_in_all vs ≡ 0)
numbers-only [] k f = (refl, refl)
numbers-only (number x ∷ vs) k f = let r = numbers-only vs k f.1 in (omega (arith, r.0), omega (arith, r.1))
numbers-only (string s ∷ vs) k f = absurd (false≢true f.0)

strings-only : (vs : List Value) (k : Kind) → Taking K.Strings vs k → (length (strings_in vs) ≡ length vs) × (joined_length (strings_in vs) ≡ bytes_in_all vs)
strings-only [] k f = (refl, refl)
strings-only (number x ∷ vs) k f = absurd (false≢true f.0)
strings-only (string s ∷ vs) k f = let r = strings-only vs k f.1 in (omega (arith, r.0), omega (arith, r.1))

-- a list's values are all kept, and there is one
pub all-kept : (vs : List Value) (k : Kind) → Taking K.Empty vs k → (how_many (of_one_kind vs) ≡ length vs) × (how_long (of_one_kind vs) ≡ bytes_in_all vs)
all-kept [] k f = (refl, refl)
all-kept (number x ∷ vs) k f = let r = numbers-only vs k f.1 in (omega (arith, r.0), omega (arith, r.1))
all-kept (string s ∷ vs) k f = let r = strings-only vs k f.1 in (omega (arith, r.0), omega (arith, r.1))

pub some-value : (vs : List Value) (k : Kind) → Taking K.Empty vs k → Full k → 1 ≤ length vs
some-value [] k f g = absurd (rw (sym f) at g)
some-value (v ∷ vs) k f g = omega arith

-- ---- legal values

-- "Data lines hold bytes 32 to 126 and tabs only"
abbrev pub FairLine : List ℕ → Type 0
FairLine line = Each (λ b. fair b ≡ true) line

-- 60 bytes at most, each of a data line
pub record LegalString (s : List ℕ) : Type 0 where
  pub short : length s ≤ STRING
  pub bytes : Each (λ b. fair b ≡ true) s

abbrev pub LegalValue : (ℕ → Type 0) → Value → Type 0
LegalValue P (number x) = P (to_bits binary64 x)
LegalValue P (string s) = LegalString s

abbrev pub LegalValues : (ℕ → Type 0) → Values → Type 0
LegalValues P (numbers bs) = Each P bs
LegalValues P (strings ss) = Each LegalString ss

module _ (P : ℕ → Type 0) where
  legal-numbers : (vs : List Value) → Each (LegalValue P) vs → Each P (numbers_in vs)
  legal-numbers [] h = tt
  legal-numbers (number x ∷ vs) h = (h.0, legal-numbers vs h.1)
  legal-numbers (string s ∷ vs) h = legal-numbers vs h.1

  legal-strings : (vs : List Value) → Each (LegalValue P) vs → Each LegalString (strings_in vs)
  legal-strings [] h = tt
  legal-strings (number x ∷ vs) h = legal-strings vs h.1
  legal-strings (string s ∷ vs) h = (h.0, legal-strings vs h.1)

  pub legal-values : (vs : List Value) → Each (LegalValue P) vs → LegalValues P (of_one_kind vs)
  legal-values [] h = tt
  legal-values (number x ∷ vs) h = (h.0, legal-numbers vs h.1)
  legal-values (string s ∷ vs) h = (h.0, legal-strings vs h.1)

-- ---- what a statement is given

-- the reader after a list that has such values
abbrev pub After : Kind → Reader → Type 0
After k R.Text = ⊥
After k R.Data = Full k
After k (R.List j) = k ≡ j

pub record Led (j : Kind) (vs : List Value) (r : Reader) : Type 0 where
  pub to : Kind
  pub taking : Taking j vs to
  pub after : After to r

-- legal values, which lead a list on
abbrev pub Good : (ℕ → Type 0) → Kind → Given → Type 0
Good P j (given r vs) = Each (LegalValue P) vs × Led j vs r
Good P j (wrong q k) = Unit

legal-string : (line : List ℕ) (s n k : ℕ) → FairLine line → StringRead line s n k → LegalString (undoubled (drop s line))
legal-string line s n k f r = record { short = omega (arith, r.short, r.bytes); bytes = each-undoubled (λ b. fair b ≡ true) refl line s f }

module _ (P : ℕ → Type 0) (read : (bs : List ℕ) (x : Float) → reading bs ≡ D.Number x → P (to_bits binary64 x)) (line : List ℕ) (all_fair : FairLine line) where
  good-rest : (j : Kind) (vs : List Value) (i : ℕ) → Good P j (given R.Data vs) → Good P j (rest vs line i)
  unfolding rest
  good-rest j vs i h = by (ltb (past blank line i) (length line))
    where
      by : (t : Bool) → Good P j (if t then wrong F.RestOfLine (past blank line i) else given R.Data vs)
      by true = tt
      by false = h

  good-items : (n : ℕ) (j : Kind) (i : ℕ) → Each (LegalValue P) (items_up_to n line j i).values × Taking j (items_up_to n line j i).values (items_up_to n line j i).kind
  unfolding items_up_to
  good-items zero j i = (tt, refl)
  good-items (suc n) j i = by (item j line i) refl (good-items n)
    where
      by : (m : Result Item LineFault) → item j line i ≡ m
          → ((d : Kind) (k : ℕ) → Each (LegalValue P) (items_up_to n line d k).values × Taking d (items_up_to n line d k).values (items_up_to n line d k).kind)
          → Each (LegalValue P) (further j line m (items_up_to n line)).values × Taking j (further j line m (items_up_to n line)).values (further j line m (items_up_to n line)).kind
      by (Ok I.End) e f = (tt, refl)
      by (Ok (I.Close k)) e f = (tt, refl)
      by (Err f') e f = (tt, refl)
      by (Ok (I.Value (W.Number x k))) e f =
          let w = item-number j line i x k e in
          ((read (run value_byte (drop (past separator line i) line)) x w.1.read, (f K.Numbers k).0), (w.0, (f K.Numbers k).1))
      by (Ok (I.Value (W.String s l k))) e f =
          let w = item-string j line i s l k e in
          ((legal-string line s l k all_fair w.2, (f K.Strings k).0), (w.0, (f K.Strings k).1))

  good-end : (j k : Kind) (vs : List Value) (s : Result (Option ℕ) LineFault) → Each (LegalValue P) vs → Taking j vs k → Good P j (list_end k vs line s)
  good-end j k vs (Err f) h t = tt
  good-end j k vs (Ok None) h t = (h, record { to = k; taking = t; after = refl })
  good-end j K.Empty vs (Ok (Some p)) h t = tt
  good-end j K.Numbers vs (Ok (Some p)) h t = good-rest j vs (p + 1) (h, record { to = K.Numbers; taking = t; after = tt })
  good-end j K.Strings vs (Ok (Some p)) h t = good-rest j vs (p + 1) (h, record { to = K.Strings; taking = t; after = tt })

  pub good-listed : (j : Kind) (i : ℕ) → Good P j (listed j line i)
  unfolding listed
  good-listed j i =
      let is = items j line i in
      let g = good-items (length line) j i in
      good-end j is.kind is.values is.stop g.0 g.1

  pub good-given : (i : ℕ) → Good P K.Empty (given_at line i)
  unfolding given_at
  good-given i = by (stands OPEN line i) (value_at line i) refl
    where
      by : (t : Bool) (w : Result Word LineFault) → value_at line i ≡ w → Good P K.Empty (if t then listed K.Empty line (i + 1) else alone line w)
      by true w e = good-listed K.Empty (i + 1)
      by false (Ok (W.Number x k)) e =
          good-rest K.Empty (number x ∷ []) k
          ((read (run value_byte (drop i line)) x (value-number line i x k e).1.read, tt), record { to = K.Numbers; taking = (refl, refl); after = tt })
      by false (Ok (W.String s n k)) e =
          good-rest K.Empty (string (undoubled (drop s line)) ∷ []) k
          ((legal-string line s n k all_fair (value-string line i s n k e).2, tt), record { to = K.Strings; taking = (refl, refl); after = tt })
      by false (Err f) e = tt
