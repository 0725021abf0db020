-- "Name: the longest run of letters, digits or underscores, 1 to 32 of them; case counts." In memory a name is four words: its bytes
-- from the most significant down, zeros after it. Definitions only.
use Rattle.std.specs.Prelude.{ℕ, ◌+◌, ◌*◌, Bool, ◌&&◌, List, [], ◌∷◌, eqb, leb, length, get_or}
use Rattle.plain.specs.Runs.{run, skip}
use Rattle.plain.specs.Bytes.{within}
use Rattle.value.specs.Classes.{name_byte}
use Rattle.statement.specs.Head.{NAME}
use Rattle.words.specs.Halves.{all}
use Rattle.octets.specs.Octets.{octets}

-- the words of a name
abbrev pub NAMEWORDS : ℕ
NAMEWORDS = 4

-- "1 to 32 of them"
unfoldable pub legal : List ℕ → Bool
legal name = within 1 NAME (length name) && all name_byte name

-- the word of eight bytes from place k on, the first one highest; past the end they are zeros
abbrev pub word_at : List ℕ → ℕ → ℕ
word_at bs k =
    get_or bs k 0 * 72057594037927936 + get_or bs (k + 1) 0 * 281474976710656 + get_or bs (k + 2) 0 * 1099511627776
    + get_or bs (k + 3) 0 * 4294967296 + get_or bs (k + 4) 0 * 16777216 + get_or bs (k + 5) 0 * 65536 + get_or bs (k + 6) 0 * 256
    + get_or bs (k + 7) 0

-- a name's four words
abbrev pub packed : List ℕ → List ℕ
packed name = word_at name 0 ∷ word_at name 8 ∷ word_at name 16 ∷ word_at name 24 ∷ []

-- the name that words hold
unfoldable pub unpacked : List ℕ → List ℕ
unfolding octets
unpacked ws = run name_byte (octets ws)

-- they hold a legal name, and zeros after it
unfoldable pub holds_name : List ℕ → Bool
unfolding octets unpacked
holds_name ws = leb 1 (length (unpacked ws)) && all (eqb 0) (skip name_byte (octets ws))
