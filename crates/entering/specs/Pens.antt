-- Where a line of an open text is written: behind the held statements and the text's own, a place that is held for the first values of a list being
-- written over. Definitions only.
use Rattle.std.specs.Prelude.{ℕ, ◌+◌, ◌*◌, ◌-◌, ◌≤◌, ◌≡◌, List, [], ◌∷◌, Float, length, get_or}
use Rattle.std.specs.Float.{binary64}
use Rattle.std.specs.Float.Ieee.{of_bits}
use Rattle.value.specs.Value.{number}
use Rattle.statement.specs.declared.values.Reader.{Reader}
use Rattle.statement.specs.declared.values.Reader.TheVariants as R
use Rattle.names.specs.Names.{NAMEWORDS}
use Rattle.layout.specs.Limits.{WORDS, STATEMENTS, VALUES, BYTES, HEADS_AT, NAMES_AT, VALUES_AT}
use Rattle.layout.specs.Memory.{statement_count, value_count, byte_count}
use Rattle.page.specs.Writing.{Page, given_on}
use Rattle.page.specs.declared.pen.Pen.{Pen}
use Rattle.bookmark.specs.declared.mark.Entered.{Entered}
use Rattle.entering.specs.Counts.{places}

-- the head of a list that goes on, with the values that it has; outside a list none is needed
abbrev pub last_head : List ℕ → (heads : ℕ) → Reader → ℕ
last_head m h R.Text = 0
last_head m h R.Data = 0
last_head m h (R.List k) = get_or m (h - 1) 0 - places (R.List k)

pub record HeadRead (m : List ℕ) (heads : ℕ) (r : Reader) : Type 0 where
  pub some : 1 ≤ heads
  pub inside : heads ≤ length m
  pub counted : places r ≤ get_or m (heads - 1) 0

abbrev pub pen_at : List ℕ → Entered → Reader → Pen
pen_at m e r =
    record {
      heads = HEADS_AT + (statement_count m + e.statements);
      names = NAMES_AT + NAMEWORDS * (statement_count m + e.statements);
      values = VALUES_AT + (value_count m + (e.values - places r));
      bytes = byte_count m + e.bytes;
      head = last_head m (HEADS_AT + (statement_count m + e.statements)) r;
    }

-- what finding it requires
pub record Penned (m : List ℕ) (e : Entered) (r : Reader) : Type 0 where
  pub words : length m ≡ WORDS
  pub statements : statement_count m + e.statements ≤ STATEMENTS
  pub values : value_count m + e.values ≤ VALUES
  pub bytes : byte_count m + e.bytes ≤ BYTES
  pub some : places r ≤ e.values
  pub head : places r ≤ get_or m (HEADS_AT + (statement_count m + e.statements) - 1) 0

-- the number that holds a list's place: +0
abbrev pub ZERO : Float
ZERO = of_bits binary64 0

abbrev pub place_on : Page → Page
place_on p = given_on (number ZERO ∷ []) p
