-- "A pool is damaged exactly when one of these fails": the conditions, in document 01's order; then "an open text whose statements and values,
-- put after the held ones, fail its conditions (the limit of 16 texts apart), whose kept line is over 133 bytes or whose byte count is over
-- 4,194,305". Definitions only.
use Rattle.std.specs.Prelude.{ℕ, ◌+◌, ◌/◌, ◌%◌, ◌≤◌, ◌≡◌, Bool, true, false, ◌&&◌, List, [], ◌∷◌, eqb, ltb, leb, length, take, drop, get_or, if◌then◌else◌}
use Rattle.plain.specs.Bytes.{fair}
use Rattle.value.specs.Strings.{STRING}
use Rattle.words.specs.Halves.{HALF, upper, lower, sum, distinct, all}
use Rattle.names.specs.Names.{NAMEWORDS, holds_name}
use Rattle.layout.specs.Limits.{TEXTS, STATEMENTS, VALUES, BYTES, TEXTWORDS, OPEN_AT, WORDS, LONGEST_KEPT, MOST_COUNTED}
use Rattle.layout.specs.Memory.{text_count, statement_count, value_count, byte_count, text_words, head_words, name_words, value_words, held_bytes, bytes_taken, opens, merged}

-- "memory of the fixed size"
abbrev pub sized : List ℕ → Bool
sized m = eqb (length m) WORDS

-- "totals within the limits", of so many texts
abbrev pub limited : (most : ℕ) → List ℕ → Bool
limited most m = leb (text_count m) most && leb (statement_count m) STATEMENTS && leb (value_count m) VALUES && leb (byte_count m) BYTES

-- both as facts: what reading the areas requires
pub record Framed (m : List ℕ) : Type 0 where
  pub words : length m ≡ WORDS
  pub texts : text_count m ≤ TEXTWORDS
  pub statements : statement_count m ≤ STATEMENTS
  pub values : value_count m ≤ VALUES
  pub bytes : byte_count m ≤ BYTES

-- "labels distinct"
abbrev pub labelled : List ℕ → Bool
labelled m = distinct (text_words m)

-- "names and operators legal": every four words of the names
unfoldable pub all_named : List ℕ → List ℕ → Bool
unfolding holds_name
all_named [] ns = true
all_named (h ∷ hs) ns = if holds_name (take NAMEWORDS ns) then all_named hs (drop NAMEWORDS ns) else false

abbrev pub named : List ℕ → Bool
named m = all_named (head_words m) (name_words m)

abbrev pub operated : List ℕ → Bool
operated m = all (λ h. leb (upper h) 3) (head_words m)

-- "every statement's count at least 1 and the counts adding up to the total"
abbrev pub summed : List ℕ → Bool
summed m = all (λ h. leb 1 (lower h)) (head_words m) && eqb (sum (head_words m)) (value_count m)

-- "statements grouped by text in load order, each under a held label": the texts' numbers of statements add up
abbrev pub grouped : List ℕ → Bool
grouped m = eqb (sum (text_words m)) (statement_count m)

-- what reading values statement by statement requires: the heads count no more than there are, and these are few enough to be summed
pub record Counted (heads values : List ℕ) : Type 0 where
  pub within : sum heads ≤ length values
  pub few : length values ≤ HALF

-- "every held value finite and of size below 2^200": a double is, exactly when its exponent's field is below 1023 + 200
abbrev pub BIAS : ℕ
BIAS = 1023

abbrev pub exponent_field : ℕ → ℕ
exponent_field w = w / 4503599627370496 % 2048

abbrev pub small : ℕ → Bool
small w = ltb (exponent_field w) (BIAS + 200)

-- "a string over its length": a value's word fits its statement's kind, 0 being numbers
abbrev pub fits : (kind w : ℕ) → Bool
fits kind w = if eqb kind 0 then small w else leb w STRING

unfoldable pub all_fit : (heads values : List ℕ) → Bool
unfolding all
all_fit [] vs = true
all_fit (h ∷ hs) vs = if all (fits (upper h / 2)) (take (lower h) vs) then all_fit hs (drop (lower h) vs) else false

abbrev pub bounded : List ℕ → Bool
bounded m = all_fit (head_words m) (value_words m)

-- "lengths that do not add up to the string total"
unfoldable pub total_bytes : (heads values : List ℕ) → ℕ
total_bytes [] vs = 0
total_bytes (h ∷ hs) vs = bytes_taken (upper h / 2) (take (lower h) vs) + total_bytes hs (drop (lower h) vs)

abbrev pub spaced : List ℕ → Bool
spaced m = eqb (total_bytes (head_words m) (value_words m)) (byte_count m)

-- "with other bytes": strings are "drawn from the data line's bytes"
abbrev pub lettered : List ℕ → Bool
lettered m = all fair (held_bytes m)

-- document 01's conditions, with at most so many texts
unfoldable pub orderly : (most : ℕ) → List ℕ → Bool
unfolding all_named all_fit total_bytes
orderly most m =
    if sized m && limited most m
    then labelled m && named m && operated m && summed m && grouped m && bounded m && spaced m && lettered m
    else false

-- ---- the open text

-- what is kept of its line, and how many bytes came so far
abbrev pub kept_length : List ℕ → ℕ
kept_length m = get_or m (OPEN_AT + 10) 0

abbrev pub bytes_so_far : List ℕ → ℕ
bytes_so_far m = get_or m (OPEN_AT + 12) 0

-- "put after the held ones" its statements and values keep the conditions, "the limit of 16 texts apart"
abbrev pub orderly_open : List ℕ → Bool
orderly_open m = orderly (TEXTS + 1) (merged m) && leb (kept_length m) LONGEST_KEPT && leb (bytes_so_far m) MOST_COUNTED

-- the memory is not damaged
unfoldable pub sound : List ℕ → Bool
unfolding orderly
sound m = orderly TEXTS m && (if opens m then orderly_open m else true)
