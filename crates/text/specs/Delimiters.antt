-- "A line that, without outer blanks, is exactly `\begindata` or `\begintext` opens the section it names, even from within it."
-- Definitions only.
use Rattle.std.specs.Prelude.{ℕ, Bool, false, ◌&&◌, List, [], ◌∷◌, eqb, if◌then◌else◌}
use Rattle.plain.specs.Ascii.{ascii}
use Rattle.plain.specs.Runs.{skip, none}
use Rattle.value.specs.Classes.{blank}
use Rattle.text.specs.declared.delimiters.Mark.{Mark}
use Rattle.text.specs.declared.delimiters.Mark.TheVariants as M

abbrev pub BEGINDATA : List ℕ
BEGINDATA = ascii "\\begindata"

abbrev pub BEGINTEXT : List ℕ
BEGINTEXT = ascii "\\begintext"

-- the bytes are the word, and then blanks only
abbrev pub word : List ℕ → List ℕ → Bool
word [] bs = none (skip blank bs)
word (w ∷ ws) [] = false
word (w ∷ ws) (b ∷ bs) = eqb b w && word ws bs

-- the line without outer blanks is exactly the word
abbrev pub exactly : List ℕ → List ℕ → Bool
exactly w line = word w (skip blank line)

unfoldable pub mark_of : List ℕ → Mark
mark_of line = if exactly BEGINDATA line then M.Data else (if exactly BEGINTEXT line then M.Text else M.Plain)
