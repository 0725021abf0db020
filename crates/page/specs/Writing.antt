-- A page is a pool's memory and a pen on it, behind what is held: what a text adds is written there, event by event. Definitions only.
use Rattle.std.specs.Prelude.{ℕ, ◌+◌, ◌*◌, ◌-◌, Bool, false, true, ◌&&◌, List, [], ◌∷◌, eqb, ltb, length, if◌then◌else◌}
use Rattle.std.specs.Float.{binary64}
use Rattle.std.specs.Float.Ieee.{to_bits}
use Rattle.value.specs.Value.{Value, number, string}
use Rattle.statement.specs.Statements.{Event, opened, value}
use Rattle.statement.specs.declared.head.Operator.{Operator}
use Rattle.words.specs.Over.{over}
use Rattle.words.specs.Halves.{HALF, upper, joined}
use Rattle.octets.specs.Octets.{inked_in}
use Rattle.names.specs.Names.{NAMEWORDS, packed}
use Rattle.layout.specs.Limits.{BYTEWORDS, HEADS_AT, NAMES_AT, VALUES_AT, BYTES_AT}
use Rattle.layout.specs.Memory.{operator_number}
use Rattle.page.specs.declared.pen.Pen.{Pen}

-- ---- a page: the memory, and the pen on it

pub record Page : Type 0 where
  pub memory : List ℕ
  pub pen : Pen

abbrev pub page : List ℕ → Pen → Page
page m p = record { memory = m; pen = p }

-- the pen behind so many statements, values and bytes that are held
abbrev pub pen_behind : (statements values bytes : ℕ) → Pen
pen_behind n k b = record { heads = HEADS_AT + n; names = NAMES_AT + NAMEWORDS * n; values = VALUES_AT + k; bytes = b; head = 0 }

-- ---- a statement is opened: its name, and the head of a statement that has no values yet

abbrev pub bare_head : Operator → ℕ
bare_head o = joined (operator_number o) 0

unfoldable pub opened_on : (name : List ℕ) → Operator → Page → Page
opened_on name o p =
    page
    (over p.pen.heads (bare_head o ∷ []) (over p.pen.names (packed name) p.memory))
    (record {
      heads = p.pen.heads + 1;
      names = p.pen.names + NAMEWORDS;
      values = p.pen.values;
      bytes = p.pen.bytes;
      head = bare_head o;
    })

-- ---- a value is stored: a number's bits, or a string's length and its bytes

abbrev pub word_on : ℕ → Page → Page
word_on w p =
    page
    (over p.pen.values (w ∷ []) p.memory)
    (record {
      heads = p.pen.heads;
      names = p.pen.names;
      values = p.pen.values + 1;
      bytes = p.pen.bytes;
      head = p.pen.head;
    })

abbrev pub bytes_on : List ℕ → Page → Page
bytes_on s p =
    page
    (inked_in BYTES_AT BYTEWORDS p.pen.bytes s p.memory)
    (record {
      heads = p.pen.heads;
      names = p.pen.names;
      values = p.pen.values;
      bytes = p.pen.bytes + length s;
      head = p.pen.head;
    })

abbrev pub stored_on : Value → Page → Page
stored_on (number x) p = word_on (to_bits binary64 x) p
stored_on (string s) p = word_on (length s) (bytes_on s p)

unfoldable pub stored_all : List Value → Page → Page
stored_all [] p = p
stored_all (v ∷ vs) p = stored_all vs (stored_on v p)

-- ---- values are told to the head of the statement opened last

-- a head's upper number is kind · 2 + operator: the first strings add 2 to it
abbrev pub counting : (strings : Bool) (n head : ℕ) → ℕ
counting strings n h = (if strings && ltb (upper h) 2 then h + 2 * HALF else h) + n

unfoldable pub told_on : (strings : Bool) (n : ℕ) → Page → Page
told_on strings n p =
    if eqb n 0 then p
    else
    (page
    (over (p.pen.heads - 1) (counting strings n p.pen.head ∷ []) p.memory)
    (record {
      heads = p.pen.heads;
      names = p.pen.names;
      values = p.pen.values;
      bytes = p.pen.bytes;
      head = counting strings n p.pen.head;
    }))

-- a string is among some values
abbrev pub any_string : List Value → Bool
any_string [] = false
any_string (number x ∷ vs) = any_string vs
any_string (string s ∷ vs) = true

-- values are given to it: they are stored, and told to its head
abbrev pub given_on : List Value → Page → Page
given_on vs p = told_on (any_string vs) (length vs) (stored_all vs p)

-- ---- events, one after the other

unfoldable pub written_on : List Event → Page → Page
unfolding opened_on stored_all told_on
written_on [] p = p
written_on (opened name o ∷ es) p = written_on es (opened_on name o p)
written_on (value v ∷ es) p = written_on es (given_on (v ∷ []) p)
