-- "Admit strings in single quotes, a quote inside written twice, up to 60 bytes after undoubling, on one line .. A blank, comma, bracket
-- or line end follows the closing quote." Definitions only.
use Rattle.std.specs.Prelude.{ℕ, ◌+◌, Bool, true, ◌&&◌, not, List, [], ◌∷◌, ◌++◌, Option, Some, None, Result, Ok, Err, eqb, ltb, leb, length, drop, get_or, if◌then◌else◌}
use Rattle.plain.specs.Bytes.{QUOTE}
use Rattle.value.specs.Classes.{value_byte}
use Rattle.value.specs.Faults.{faulty}
use Rattle.value.specs.declared.faults.Fault.TheVariants as F
use Rattle.value.specs.declared.faults.LineFault.{LineFault}
use Rattle.value.specs.declared.strings.Closed.{Closed}
use Rattle.value.specs.declared.Word.{Word}
use Rattle.value.specs.declared.Word.TheVariants as W

-- the longest string
abbrev pub STRING : ℕ
STRING = 60

-- ---- from quotes to bytes, and back

-- what follows an opening quote: the bytes of the string, and how many bytes it takes with its closing quote; or no quote closes it
pub data Scanned : Type 0 where
  closed : (bytes : List ℕ) (taken : ℕ) → Scanned
  unclosed : Scanned

-- one byte of the string, which takes so many
abbrev pub preceding : (b takes : ℕ) → Scanned → Scanned
preceding b n (closed bs k) = closed (b ∷ bs) (n + k)
preceding b n unclosed = unclosed

-- two quotes are one quote inside, and one alone closes
unfoldable pub scanned : List ℕ → Scanned
scanned [] = unclosed
scanned (b ∷ []) = if eqb b QUOTE then closed [] 1 else unclosed
scanned (b ∷ c ∷ bs) =
    if eqb b QUOTE then (if eqb c QUOTE then preceding QUOTE 2 (scanned bs) else closed [] 1)
    else preceding b 1 (scanned (c ∷ bs))

abbrev pub contents : Scanned → List ℕ
contents (closed bs k) = bs
contents unclosed = []

-- the bytes of the string that opens with a list's first byte
abbrev pub undoubled : List ℕ → List ℕ
undoubled [] = []
undoubled (q ∷ bs) = contents (scanned bs)

abbrev pub doubled : List ℕ → List ℕ
doubled [] = []
doubled (b ∷ bs) = if eqb b QUOTE then QUOTE ∷ QUOTE ∷ doubled bs else b ∷ doubled bs

-- a string as it is written
abbrev pub quoted : List ℕ → List ℕ
quoted s = QUOTE ∷ (doubled s ++ QUOTE ∷ [])

-- ---- a string in a line

-- "A blank, comma, bracket or line end follows the closing quote."
abbrev pub followed : List ℕ → ℕ → Bool
followed line i = if ltb i (length line) then not (value_byte (get_or line i 0)) else true

-- a string from place i to `end`, of so many bytes
abbrev pub fitting : List ℕ → (i long end : ℕ) → Result Word LineFault
fitting line i n end = if leb n STRING && followed line end then Ok (W.String i n end) else Err (faulty F.BadValue i)

-- what was found past the opening quote at i
abbrev pub enclosed : List ℕ → (i : ℕ) → Option Closed → Result Word LineFault
enclosed line i (Some c) = fitting line i c.long c.end
enclosed line i None = Err (faulty F.BadValue i)

-- the same as the code gives it: the length and the place after the closing quote, past so many bytes and up to place i
abbrev pub closing : (long i : ℕ) → Scanned → Option Closed
closing n i (closed bs k) = Some (record { long = n + length bs; end = i + k })
closing n i unclosed = None

-- the string whose opening quote stands at place i: unclosed, too long or wrongly followed it is a fault there
unfoldable pub string_at : List ℕ → ℕ → Result Word LineFault
string_at line i = enclosed line i (closing 0 (i + 1) (scanned (drop (i + 1) line)))
