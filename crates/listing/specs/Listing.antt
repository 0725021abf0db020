-- "The listing program reads one text from standard input, up to the text limit, loads it into an empty pool and prints the
-- variables in byte order of names, each with its count, then how many values these variables have together and the bits of each,
-- in the same order." "The listing shows a string quoted, as written, in place of bits." Refused, it "prints `refused N line L column C`, 0
-- where there is none."
-- Definitions only.
use Rattle.std.specs.Prelude.{ℕ, List, [], ◌∷◌, ◌++◌, Ok, Err}
use Rattle.plain.specs.Ascii.{ascii}
use Rattle.plain.specs.Bytes.{SPACE}
use Rattle.layout.specs.State.{Pool}
use Rattle.pool.specs.Replies.{Reply, reply_number, reply_line, reply_column}
use Rattle.loading.specs.Load.{text_of, with, load_answer}
use Rattle.pen.specs.Pen.{phrase, entry}
use Rattle.shown.specs.Shown.{shown}

-- the words of its line
abbrev pub REFUSED : List ℕ
REFUSED = ascii "refused"

abbrev pub LINE : List ℕ
LINE = ascii "line"

abbrev pub COLUMN : List ℕ
COLUMN = ascii "column"

-- the label under which the text is loaded
abbrev pub LABEL : ℕ
LABEL = 0

-- the state after the load
abbrev pub loaded : List ℕ → Pool
loaded text = with [] (text_of LABEL text)

abbrev pub position : (line column : ℕ) → List ℕ
position l c = phrase LINE l ++ (SPACE ∷ entry COLUMN c)

abbrev pub refusal_line : (number line column : ℕ) → List ℕ
refusal_line n l c = phrase REFUSED n ++ (SPACE ∷ position l c)

abbrev pub refusal : Reply → List ℕ
refusal r = refusal_line (reply_number r) (reply_line r) (reply_column r)

abbrev pub told : Reply → Pool → List ℕ
told (Ok u) s = shown s
told (Err e) s = refusal (Err e)

-- what the program prints for a text
unfoldable pub listing : List ℕ → List ℕ
unfolding shown
listing text = told (load_answer LABEL text []) (loaded text)
