-- What the functions do that list the variables and values of an undamaged pool, and what they need. Definitions only.
use Rattle.std.specs.Prelude.{ℕ, ◌+◌, ◌*◌, ◌/◌, ◌≤◌, ◌<◌, ◌≡◌, true, List, map, leb, length, take, drop, get_or}
use Rattle.value.specs.Strings.{STRING}
use Rattle.statement.specs.Statements.{Values}
use Rattle.words.specs.Over.{part}
use Rattle.words.specs.Halves.{upper, lower, sum, all}
use Rattle.words.specs.Placed.{Room, Writes}
use Rattle.octets.specs.Octets.{octets}
use Rattle.names.specs.Names.{NAMEWORDS, legal, unpacked}
use Rattle.layout.specs.Limits.{VALUES}
use Rattle.layout.specs.Memory.{statement_count, head_words, name_words, value_words, held_bytes, cut_strings, cut_values, decode}
use Rattle.layout.specs.Damage.{total_bytes, sound}
use Rattle.variables.specs.Variables.{string, each, variable}
use Rattle.variables.specs.Walk.{Begins}
use Rattle.variables.specs.declared.walk.Start.{Start}
use Rattle.pen.specs.Pen.{entry}
use Rattle.order.specs.Places.{Places, names_at}
use Rattle.shown.specs.Shown.{values_of, counts, value_lines, shown}
use Rattle.shown.specs.declared.Ends.{Ends}

-- four words that hold a legal name
pub record Holding (words : List ℕ) : Type 0 where
  pub four : length words ≡ NAMEWORDS
  pub name : legal (unpacked words) ≡ true

-- ---- a variable's line

abbrev pub size : (memory name : List ℕ) → ℕ
size memory name = length (variable name (decode memory))

abbrev pub line : (memory name : List ℕ) → List ℕ
line memory name = entry name (size memory name)

pub record Adding (memory words : List ℕ) (ends : Ends) (out : List ℕ) : Type 0 where
  pub named : Holding words
  pub room : Room ends.at (line memory (unpacked words)) out
  pub few : ends.total + size memory (unpacked words) ≤ VALUES

pub record Adds (memory name : List ℕ) (ends : Ends) (out : List ℕ) (r : Ends) (out' : List ℕ) : Type 0 where
  pub lines : Writes ends.at (line memory name) out r.at out'
  pub total : r.total ≡ ends.total + size memory name

-- ---- the lines of all variables

-- the names at the first places
abbrev pub listed : (memory : List ℕ) (held : ℕ) (places : List ℕ) → List (List ℕ)
listed memory held places = names_at (name_words memory) held places

pub record Counting (memory : List ℕ) (held : ℕ) (places : List ℕ) (at : ℕ) (out : List ℕ) : Type 0 where
  pub within : Places (name_words memory) held places
  pub room : Room at (counts (decode memory) (listed memory held places)) out
  pub few : length (values_of (decode memory) (listed memory held places)) ≤ VALUES

pub record Counts (memory : List ℕ) (ns : List (List ℕ)) (at : ℕ) (out : List ℕ) (r : Ends) (out' : List ℕ) : Type 0 where
  pub lines : Writes at (counts (decode memory) ns) out r.at out'
  pub total : r.total ≡ length (values_of (decode memory) ns)

-- ---- the values of all variables

-- their lines
abbrev pub lines_of : (memory : List ℕ) → List (List ℕ) → List ℕ
lines_of memory ns = value_lines (values_of (decode memory) ns)

pub record Valuing (memory : List ℕ) (held : ℕ) (places : List ℕ) (at : ℕ) (out : List ℕ) : Type 0 where
  pub within : Places (name_words memory) held places
  pub room : Room at (lines_of memory (listed memory held places)) out

-- ---- the values of a variable

abbrev pub lines : (memory name : List ℕ) → List ℕ
lines memory name = value_lines (variable name (decode memory))

pub record Telling (memory words : List ℕ) (at : ℕ) (out : List ℕ) : Type 0 where
  pub named : Holding words
  pub room : Room at (lines memory (unpacked words)) out

-- where it begins is known
pub record Passing (memory name : List ℕ) (start : Start) (at : ℕ) (out : List ℕ) : Type 0 where
  pub begins : Begins name memory start.statement start.value start.count start.strings
  pub room : Room at (lines memory name) out

-- ---- the values of a statement

-- the head of the statement at a place, and its values' words
abbrev pub head_of : (memory : List ℕ) (place : ℕ) → ℕ
head_of memory s = get_or (head_words memory) s 0

abbrev pub words_of : (memory : List ℕ) (place : ℕ) → List ℕ
words_of memory s = part (sum (take s (head_words memory))) (lower (head_of memory s)) (value_words memory)

abbrev pub stated : (memory : List ℕ) (place : ℕ) → Values
stated memory s =
    cut_values (upper (head_of memory s) / 2) (words_of memory s) (drop (total_bytes (take s (head_words memory)) (value_words memory)) (held_bytes memory))

pub record Stating (memory : List ℕ) (place value at : ℕ) (out : List ℕ) : Type 0 where
  pub held : place < statement_count memory
  pub offset : value ≡ sum (take place (head_words memory))
  pub room : Room at (value_lines (each (stated memory place))) out

-- strings of these lengths, in the bytes of words from place `from` on
abbrev pub spelt : (bytes : List ℕ) (from : ℕ) (lengths : List ℕ) → List ℕ
spelt bytes from lengths = value_lines (map string (cut_strings lengths (drop from (octets bytes))))

pub record Spelling (bytes : List ℕ) (from : ℕ) (lengths : List ℕ) (at : ℕ) (out : List ℕ) : Type 0 where
  pub short : all (λ n. leb n STRING) lengths ≡ true
  pub fits : from + sum lengths ≤ 8 * length bytes
  pub room : Room at (spelt bytes from lengths) out

-- ---- the whole

pub record Showing (memory out : List ℕ) : Type 0 where
  pub whole : sound memory ≡ true
  pub room : Room 0 (shown (decode memory)) out
