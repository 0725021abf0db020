-- What a pen needs for what is written with it. Definitions only.
use Rattle.std.specs.Prelude.{ℕ, ◌+◌, ◌*◌, ◌≤◌, ◌<◌, ◌≡◌, Bool, true, false, List, length, drop}
use Rattle.value.specs.Strings.{STRING, undoubled}
use Rattle.statement.specs.declared.values.Kind.{Kind}
use Rattle.statement.specs.declared.values.Kind.TheVariants as K
use Rattle.words.specs.Halves.{HALF, upper, lower}
use Rattle.names.specs.Names.{NAMEWORDS}
use Rattle.layout.specs.Limits.{WORDS, BYTES_AT, BYTES, LONGEST_LOAD}
use Rattle.page.specs.declared.pen.Pen.{Pen}

-- ---- room

-- a head's upper number is that of a kind and an operator, and it counts no more values than these
pub record Headed (head most : ℕ) : Type 0 where
  pub tag : upper head ≤ 3
  pub count : lower head ≤ most

-- there is room for so many statements, values and bytes more
pub record Room (pen : Pen) (opens gives spells : ℕ) : Type 0 where
  pub some : 1 ≤ pen.heads
  pub heads : pen.heads + opens < pen.values
  pub names : pen.names + NAMEWORDS * opens ≤ WORDS
  pub values : pen.values + gives ≤ BYTES_AT
  pub bytes : pen.bytes + spells ≤ BYTES
  pub head : Headed pen.head pen.values

-- ---- for one step

-- a statement can be opened
pub record Opens (pen : Pen) : Type 0 where
  pub heads : pen.heads ≤ WORDS
  pub names : pen.names ≤ WORDS

-- so many values can be told to the head of the statement opened last
pub record Tells (pen : Pen) (n : ℕ) : Type 0 where
  pub some : 1 ≤ pen.heads
  pub head : upper pen.head ≤ 3
  pub few : n ≤ LONGEST_LOAD

-- one value more can be stored: the places after it can be told
pub record Stretches (pen : Pen) : Type 0 where
  pub values : pen.values ≤ HALF
  pub bytes : pen.bytes ≤ HALF

-- a string of n bytes opens at place i of a line
pub record Quoted (line : List ℕ) (i n : ℕ) : Type 0 where
  pub inside : i < length line
  pub bytes : length (undoubled (drop i line)) ≡ n
  pub short : n ≤ STRING

-- ---- kinds

-- a list has strings
abbrev pub is_strings : Kind → Bool
is_strings K.Empty = false
is_strings K.Numbers = false
is_strings K.Strings = true
