-- "Let a load be opened under a label, fed with parts of any length, also of none, and closed. Cut anywhere, also inside a delimiter or between
-- CR and LF, the outcome at closing is that of one load of the joined bytes, with 4,194,304 bytes as the limit here." An open text between two
-- bytes, whatever becomes of its complete lines. Definitions only.
use Rattle.std.specs.Prelude.{ℕ, ◌+◌, Bool, true, false, List, [], ◌∷◌, ◌++◌, eqb, ltb, length, if◌then◌else◌}
use Rattle.plain.specs.Bytes.{LF, CR}
use Rattle.plain.specs.Runs.{none}
use Rattle.feeding.specs.Kept.{ROOM, keep, settled}

-- "with 4,194,304 bytes as the limit here"
abbrev pub MOST : ℕ
MOST = 4194304

-- one more, but no more than one past the limit
abbrev pub more : ℕ → ℕ
more n = if ltb MOST n then n else n + 1

-- an open text, P being what its complete lines come to
pub record Open (P : Type 0) : Type 0 where
  pub progress : P
  -- how many lines are complete, and how long the last of them is, as far as it is kept
  pub number : ℕ
  pub long : ℕ
  -- what is kept of the line that goes on; and whether a CR came after it, of which the next byte tells whether it is the line's
  pub kept : List ℕ
  pub pending : Bool
  -- how many bytes came in all, none being counted that comes later than one past the limit
  pub bytes : ℕ

abbrev pub opening : {P : Type 0} → P → Open P
opening p = record { progress = p; number = 0; long = 0; kept = []; pending = false; bytes = 0 }

-- what a text's lines came to at its end: how many they are, and how long the last one is
pub record Ended (P : Type 0) : Type 0 where
  pub progress : P
  pub number : ℕ
  pub long : ℕ

-- ---- one byte; `complete p number line` is what line `number` makes of the progress p

-- one byte more, after which the line that goes on is this
abbrev pub holding : {P : Type 0} → Open P → List ℕ → (pending : Bool) → Open P
holding o kept pending =
    record { progress = o.progress; number = o.number; long = o.long; kept = kept; pending = pending; bytes = more o.bytes }

-- one byte more, which ends the line
abbrev pub ended : {P : Type 0} → (complete : P → ℕ → List ℕ → P) → Open P → Open P
ended complete o =
    record {
      progress = complete o.progress (more o.number) o.kept;
      number = more o.number;
      long = length o.kept;
      kept = [];
      pending = false;
      bytes = more o.bytes;
    }

-- "Lines end at LF; one CR just before it is dropped"
abbrev pub taken : {P : Type 0} → (complete : P → ℕ → List ℕ → P) → Open P → ℕ → Open P
taken complete o b =
    if eqb b LF then ended complete o
    else (if eqb b CR then holding o (settled o.kept o.pending) true
    else holding o (keep (settled o.kept o.pending) b) false)

-- past the limit bytes are no longer read
unfoldable pub step : {P : Type 0} → (complete : P → ℕ → List ℕ → P) → Open P → ℕ → Open P
step complete o b = if ltb o.bytes MOST then taken complete o b else holding o o.kept o.pending

-- ---- parts, and the end

unfoldable pub fed : {P : Type 0} → (complete : P → ℕ → List ℕ → P) → Open P → (part : List ℕ) → Open P
fed complete o [] = o
fed complete o (b ∷ bs) = fed complete (step complete o b) bs

unfoldable pub fed_all : {P : Type 0} → (complete : P → ℕ → List ℕ → P) → Open P → (parts : List (List ℕ)) → Open P
fed_all complete o [] = o
fed_all complete o (p ∷ ps) = fed_all complete (fed complete o p) ps

-- the parts joined
abbrev pub joined : List (List ℕ) → List ℕ
joined [] = []
joined (p ∷ ps) = p ++ joined ps

-- "a last line needs no LF, and after a final LF there is no further line"
abbrev pub last_line : {P : Type 0} → (complete : P → ℕ → List ℕ → P) → Open P → (line : List ℕ) → Ended P
last_line complete o line =
    if none line then record { progress = o.progress; number = o.number; long = o.long }
    else record { progress = complete o.progress (more o.number) line; number = more o.number; long = length line }

unfoldable pub lastly : {P : Type 0} → (complete : P → ℕ → List ℕ → P) → Open P → Ended P
lastly complete o = last_line complete o (settled o.kept o.pending)

-- ---- the same of whole lines: what a text's lines come to, one after the other

-- a length as far as a line is kept
abbrev pub capped : ℕ → ℕ
capped n = if ltb ROOM n then ROOM else n

unfoldable pub folded : {P : Type 0} → (complete : P → ℕ → List ℕ → P) → P → (number long : ℕ) → List (List ℕ) → Ended P
folded complete p number long [] = record { progress = p; number = number; long = long }
folded complete p number long (l ∷ ls) = folded complete (complete p (number + 1) l) (number + 1) (capped (length l)) ls
