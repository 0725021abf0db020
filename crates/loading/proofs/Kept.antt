-- A statement that keeps all its values has them of one kind: their words, their bytes and the head to which they are told one by one
-- are those of the statement. Every statement of an admitted text keeps all its values. Assumes nothing.
use Prim.Native.Nat.{ℕ, ◌+◌, ◌*◌, ◌≤◌}
use native.Mathlib.Omega.{arith}
use mathlib.Core.Path.{◌≡◌, refl, ap}
use mathlib.Core.Bool.{true}
use mathlib.Core.List.{List, [], ◌∷◌, map}
use borrow.Author.Tests.{lt-ltb, le-ltb}
use lib.Ieee.{binary64, to_bits}
use lib.ListN.{length}
use Rattle.plain.proofs.Each.{Each, each_weaken}
use Rattle.value.specs.Value.{Value, number, string}
use Rattle.statement.specs.Statements.{Event, opened, value, Statement, how_many, numbers_in, strings_in, of_one_kind, gathered, statements, givings}
use Rattle.statement.specs.declared.head.Operator.{Operator}
use Rattle.statement.specs.declared.head.Operator.TheVariants as O
use Rattle.statement.proofs.OneKind.{LegalString, LegalValues}
use Rattle.text.specs.Text.{fine, read_text}
use Rattle.text.proofs.Legal.{Legal, total, all-legal, none-loose, all-given}
use Rattle.words.specs.Halves.{HALF, upper}
use Rattle.octets.proofs.Bytes.{Bytes}
use Rattle.layout.specs.State.{flat, words_of, spelled}
use Rattle.layout.specs.Memory.{operator_number, head_word}
use Rattle.layout.proofs.Bytes.{fair-below}
use Rattle.page.specs.Writing.{bare_head, counting, any_string}

-- ---- values one by one

-- a value's word, and its bytes
abbrev pub word_in : Value → ℕ
word_in (number x) = to_bits binary64 x
word_in (string s) = length s

abbrev pub letters_in : Value → List ℕ
letters_in (number x) = []
letters_in (string s) = s

-- the head to which a value more is told, and that to which some are told
abbrev pub told_head : Value → (head : ℕ) → ℕ
told_head v h = counting (any_string (v ∷ [])) 1 h

abbrev pub head_after : (head : ℕ) → List Value → ℕ
head_after h [] = h
head_after h (v ∷ vs) = head_after (told_head v h) vs

-- ---- values of one kind

abbrev pub Number : Value → Type 0
Number (number x) = Unit {0}
Number (string s) = ⊥

abbrev pub String : Value → Type 0
String (number x) = ⊥
String (string s) = Unit {0}

few-numbers : (vs : List Value) → length (numbers_in vs) ≤ length vs
few-numbers [] = omega arith
few-numbers (number x ∷ vs) = omega (arith, few-numbers vs)
few-numbers (string s ∷ vs) = omega (arith, few-numbers vs)

few-strings : (vs : List Value) → length (strings_in vs) ≤ length vs
few-strings [] = omega arith
few-strings (number x ∷ vs) = omega (arith, few-strings vs)
few-strings (string s ∷ vs) = omega (arith, few-strings vs)

all-numbers : (vs : List Value) → length (numbers_in vs) ≡ length vs → Each Number vs
all-numbers [] e = tt
all-numbers (number x ∷ vs) e = (tt, all-numbers vs (omega arith))
all-numbers (string s ∷ vs) e = absurd (omega (arith, few-numbers vs))

all-strings : (vs : List Value) → length (strings_in vs) ≡ length vs → Each String vs
all-strings [] e = tt
all-strings (number x ∷ vs) e = absurd (omega (arith, few-strings vs))
all-strings (string s ∷ vs) e = (tt, all-strings vs (omega arith))

-- numbers

pub number-words : (vs : List Value) → Each Number vs → map word_in vs ≡ numbers_in vs
number-words [] f = refl
number-words (number x ∷ vs) f = ap (λ (r : List ℕ). to_bits binary64 x ∷ r) (number-words vs f.1)
number-words (string s ∷ vs) f = absurd f.0

pub number-letters : (vs : List Value) → Each Number vs → flat letters_in vs ≡ []
unfolding flat
number-letters [] f = refl
number-letters (number x ∷ vs) f = number-letters vs f.1
number-letters (string s ∷ vs) f = absurd f.0

pub number-head : (h : ℕ) (vs : List Value) → Each Number vs → head_after h vs ≡ h + length vs
number-head h [] f = omega arith
number-head h (number x ∷ vs) f = omega (arith, number-head (h + 1) vs f.1)
number-head h (string s ∷ vs) f = absurd f.0

-- strings

pub string-words : (vs : List Value) → Each String vs → map word_in vs ≡ map length (strings_in vs)
string-words [] f = refl
string-words (number x ∷ vs) f = absurd f.0
string-words (string s ∷ vs) f = ap (λ (r : List ℕ). length s ∷ r) (string-words vs f.1)

pub string-letters : (vs : List Value) → flat letters_in vs ≡ flat (λ s. s) (strings_in vs)
unfolding flat
string-letters [] = refl
string-letters (number x ∷ vs) = string-letters vs
string-letters (string s ∷ vs) = rw (string-letters vs)

-- a head that counts strings already, and one that counts no values yet
pub string-head : (h : ℕ) (vs : List Value) → 2 * HALF ≤ h → Each String vs → head_after h vs ≡ h + length vs
string-head h [] g f = omega arith
string-head h (number x ∷ vs) g f = absurd f.0
string-head h (string s ∷ vs) g f = rw (le-ltb (upper h) 2 (omega arith)) (omega (arith, string-head (h + 1) vs (omega arith) f.1))

operator-small : (o : Operator) → operator_number o ≤ 1
operator-small O.Direct = omega arith
operator-small O.Append = omega arith

first-string : (o : Operator) → counting true 1 (bare_head o) ≡ bare_head o + 2 * HALF + 1
first-string o = rw (lt-ltb (upper (bare_head o)) 2 (omega (arith, operator-small o)))

-- ---- the values of a statement

abbrev pub statement_of : (name : List ℕ) → Operator → List Value → Statement
statement_of name o vs = record { name = name; operator = o; values = of_one_kind vs }

pub record Keeps (vs : List Value) : Type 0 where
  pub words : map word_in vs ≡ words_of (of_one_kind vs)
  pub letters : flat letters_in vs ≡ spelled (of_one_kind vs)
  pub head : (name : List ℕ) (o : Operator) → head_after (bare_head o) vs ≡ head_word (statement_of name o vs)

pub keeps : (vs : List Value) → how_many (of_one_kind vs) ≡ length vs → Keeps vs
unfolding flat
keeps [] e = record { words = refl; letters = refl; head = λ name o. omega arith }
keeps (number x ∷ vs) e =
    let f = all-numbers vs (omega arith) in
    record {
      words = ap (λ (r : List ℕ). to_bits binary64 x ∷ r) (number-words vs f);
      letters = number-letters vs f;
      head = λ name o. omega (arith, number-head (bare_head o + 1) vs f, ap length (number-words vs f));
    }
keeps (string s ∷ vs) e =
    let f = all-strings vs (omega arith) in
    record {
      words = ap (λ (r : List ℕ). length s ∷ r) (string-words vs f);
      letters = rw (string-letters vs);
      head = λ name o. rw (first-string o) (omega (arith, string-head (bare_head o + 2 * HALF + 1) vs (omega arith) f));
    }

-- ---- the values of events

-- every statement keeps all its values, and strings are bytes
abbrev pub Whole : List Event → Type 0
Whole [] = Unit {0}
Whole (opened n o ∷ es) = (how_many (of_one_kind (gathered es).loose) ≡ length (gathered es).loose) × Whole es
Whole (value v ∷ es) = Bytes (letters_in v) × Whole es

most-kept : (vs : List Value) → how_many (of_one_kind vs) ≤ length vs
most-kept [] = omega arith
most-kept (number x ∷ vs) = omega (arith, few-numbers vs)
most-kept (string s ∷ vs) = omega (arith, few-strings vs)

most-given : (es : List Event) → length (gathered es).loose + total (statements es) ≤ givings es
most-given [] = omega arith
most-given (opened n o ∷ es) = omega (arith, most-kept (gathered es).loose, most-given es)
most-given (value v ∷ es) = omega (arith, most-given es)

no-strings : (vs : List Value) → Each Number vs → Each LegalString (strings_in vs)
no-strings [] f = tt
no-strings (number x ∷ vs) f = no-strings vs f.1
no-strings (string s ∷ vs) f = absurd f.0

module _ (P : ℕ → Type 0) where
  strings-legal : (vs : List Value) → how_many (of_one_kind vs) ≡ length vs → LegalValues P (of_one_kind vs) → Each LegalString (strings_in vs)
  strings-legal [] e l = tt
  strings-legal (number x ∷ vs) e l = no-strings vs (all-numbers vs (omega arith))
  strings-legal (string s ∷ vs) e l = l

  -- where as many values are kept as are given
  whole : (es : List Event) → Each LegalString (strings_in (gathered es).loose) → Each (Legal P) (statements es)
      → length (gathered es).loose + total (statements es) ≡ givings es → Whole es
  whole [] h l e = tt
  whole (opened n o ∷ es) h l e =
      let vs = (gathered es).loose in
      let k : how_many (of_one_kind vs) ≡ length vs = omega (arith, most-kept vs, most-given es) in
      (k, whole es (strings-legal vs k l.0.values) l.1 (omega arith))
  whole (value (number x) ∷ es) h l e = (tt, whole es h l (omega arith))
  whole (value (string s) ∷ es) h l e =
      (each_weaken _ _ (λ b f. omega (arith, fair-below b f)) s h.0.bytes, whole es h.1 l (omega arith))

pub read_whole : (text : List ℕ) (es : List Event) → read_text text ≡ fine es → Whole es
read_whole text es e =
    let n = none-loose text es e in
    whole (λ v. Unit) es (rw n tt) (all-legal (λ v. Unit) (λ bs x r. tt) text es e) (omega (arith, ap length n, all-given text es e))
