-- The kinds of bytes that the text rules name. Definitions only.
use Rattle.std.specs.Prelude.{ℕ, Bool, ◌||◌, not, List, eqb, get_or}
use Rattle.plain.specs.Bytes.{TAB, LF, SPACE, OPEN, CLOSE, COMMA, UNDERSCORE, UPPER_A, UPPER_Z, LOWER_A, LOWER_Z, within, digit, fair}
use Rattle.value.specs.declared.classes.Class.{Class}
use Rattle.value.specs.declared.classes.Class.TheVariants as C

-- "A blank is a space or tab."
abbrev pub blank : ℕ → Bool
blank b = eqb b SPACE || eqb b TAB

-- "letters, digits or underscores"
abbrev pub name_byte : ℕ → Bool
name_byte b = within UPPER_A UPPER_Z b || within LOWER_A LOWER_Z b || digit b || eqb b UNDERSCORE

-- "Separators in a list are runs of blanks, commas and line ends"
abbrev pub separator : ℕ → Bool
separator b = blank b || eqb b COMMA

-- "without blank, comma or bracket"
abbrev pub value_byte : ℕ → Bool
value_byte b = not (blank b || eqb b COMMA || eqb b OPEN || eqb b CLOSE)

-- any byte of a line
abbrev pub line_byte : ℕ → Bool
line_byte b = not (eqb b LF)

abbrev pub is : Class → ℕ → Bool
is C.Blank = blank
is C.Fair = fair
is C.Name = name_byte
is C.Separator = separator
is C.Value = value_byte
is C.Line = line_byte

-- the byte c stands at place i of a line
abbrev pub stands : (c : ℕ) (line : List ℕ) (i : ℕ) → Bool
stands c line i = eqb (get_or line i 0) c
