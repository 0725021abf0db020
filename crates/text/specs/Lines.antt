-- "Lines end at LF; one CR just before it is dropped, and length is counted without it; a last line needs no LF, and after a final LF
-- there is no further line; lines count from 1." Definitions only.
use Rattle.std.specs.Prelude.{ℕ, ◌+◌, ◌-◌, ◌≤◌, ◌<◌, ◌≡◌, Bool, false, ◌&&◌, List, [], ◌∷◌, eqb, length, take, drop, if◌then◌else◌}
use Rattle.plain.specs.Bytes.{LF, CR}
use Rattle.text.specs.declared.lines.Cut.{Cut}

-- a byte before the first of some lines, or alone on a last line
abbrev pub before : ℕ → List (List ℕ) → List (List ℕ)
before b [] = (b ∷ []) ∷ []
before b (l ∷ ls) = (b ∷ l) ∷ ls

-- a list opens with an LF
abbrev pub at_lf : List ℕ → Bool
at_lf [] = false
at_lf (b ∷ bs) = eqb b LF

-- "one CR just before it is dropped": the bytes before an LF, without a CR at their end
abbrev pub without_cr : List ℕ → List ℕ
without_cr [] = []
without_cr (b ∷ []) = if eqb b CR then [] else (b ∷ [])
without_cr (b ∷ c ∷ bs) = b ∷ without_cr (c ∷ bs)

unfoldable pub lines : List ℕ → List (List ℕ)
lines [] = []
lines (b ∷ bs) =
    if eqb b LF then [] ∷ lines bs
    else (if eqb b CR && at_lf bs then lines bs else before b (lines bs))

-- where the line that starts at a place of a text ends, and where the next one starts
pub record Cuts (text : List ℕ) (i : ℕ) (c : Cut) : Type 0 where
  pub starts : i ≤ c.end
  pub ends : c.end < c.next
  pub stays : c.next ≤ length text + 1
  pub line : lines (drop i text) ≡ take (c.end - i) (drop i text) ∷ lines (drop c.next text)
