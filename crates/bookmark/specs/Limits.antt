-- How many words keep an open text, and how many values its numbers have. Definitions only.
use Rattle.std.specs.Prelude.{ℕ}

-- the words: those of numbers, and behind them those of the kept line's bytes
abbrev pub NUMBERWORDS : ℕ
NUMBERWORDS = 13

abbrev pub LINEWORDS : ℕ
LINEWORDS = 17

abbrev pub MARKWORDS : ℕ
MARKWORDS = 30

-- lines and bytes are counted from 0 to one past "4,194,304 bytes"
abbrev pub COUNTS : ℕ
COUNTS = 4194306

-- a fault's place is in a line of "132 bytes", or just behind it
abbrev pub PLACES : ℕ
PLACES = 133

-- of a line "133 bytes" are kept
abbrev pub LENGTHS : ℕ
LENGTHS = 134
