-- "A pool is memory of one fixed size, lent by the caller. It holds up to 16 texts, each under a label (any 32-bit unsigned number),
-- 512 statements and 3,072 values." "A string counts as a value; a pool keeps their bytes in a further 8,192." "One text may be open at a
-- time." The limits, and the places of the areas in that memory (docs/LAYOUT.md). Definitions only.
use Rattle.std.specs.Prelude.{ℕ, Bool, ◌&&◌, leb, length}
use Rattle.layout.specs.State.{Pool, program, values, string_bytes}

abbrev pub TEXTS : ℕ
TEXTS = 16

abbrev pub STATEMENTS : ℕ
STATEMENTS = 512

abbrev pub VALUES : ℕ
VALUES = 3072

abbrev pub BYTES : ℕ
BYTES = 8192

-- the words of the strings' bytes, eight to a word
abbrev pub BYTEWORDS : ℕ
BYTEWORDS = 1024

-- the words of the open text, and the texts' words: one more than texts are held, since the open text's stands behind them
abbrev pub OPENWORDS : ℕ
OPENWORDS = 30

abbrev pub TEXTWORDS : ℕ
TEXTWORDS = 17

-- where each area begins: after the four totals, the open text, the texts, the statements' heads, their names, the values, the bytes of
-- strings
abbrev pub OPEN_AT : ℕ
OPEN_AT = 4

abbrev pub TEXTS_AT : ℕ
TEXTS_AT = 34

abbrev pub HEADS_AT : ℕ
HEADS_AT = 51

abbrev pub NAMES_AT : ℕ
NAMES_AT = 563

abbrev pub VALUES_AT : ℕ
VALUES_AT = 2611

abbrev pub BYTES_AT : ℕ
BYTES_AT = 5683

-- the size of the memory, in words
abbrev pub WORDS : ℕ
WORDS = 6707

-- the limits are kept
unfoldable pub room : Pool → Bool
room s =
    leb (length s) TEXTS && leb (length (program s)) STATEMENTS && leb (length (values s)) VALUES && leb (length (string_bytes s)) BYTES

-- the longest text that is loaded, in bytes: "over 65,536 bytes" is too long
abbrev pub LONGEST_LOAD : ℕ
LONGEST_LOAD = 65536

-- the most that an open text may keep of a line, and count of its bytes: "whose kept line is over 133 bytes or whose byte count is over
-- 4,194,305"
abbrev pub LONGEST_KEPT : ℕ
LONGEST_KEPT = 133

abbrev pub MOST_COUNTED : ℕ
MOST_COUNTED = 4194305
