-- A word as two halves: an upper number · 2^32 + a lower number. Definitions only.
use Rattle.std.specs.Prelude.{ℕ, suc, ◌+◌, ◌*◌, ◌/◌, ◌%◌, Bool, true, false, List, [], ◌∷◌, eqb, ltb, length, if◌then◌else◌, Option, None, Some}

-- 2^32
abbrev pub HALF : ℕ
HALF = 4294967296

abbrev pub upper : ℕ → ℕ
upper w = w / HALF

abbrev pub lower : ℕ → ℕ
lower w = w % HALF

abbrev pub joined : (upper lower : ℕ) → ℕ
joined u l = u * HALF + l

-- the lower numbers summed
unfoldable pub sum : List ℕ → ℕ
sum [] = 0
sum (w ∷ ws) = lower w + sum ws

-- the place of the first word with this upper number, or the length
unfoldable pub place : ℕ → List ℕ → ℕ
place u [] = 0
place u (w ∷ ws) = if eqb (upper w) u then 0 else suc (place u ws)

-- the same as what is found: nothing where no word has it
abbrev pub found : ℕ → List ℕ → Option ℕ
found u ws = if ltb (place u ws) (length ws) then Some (place u ws) else None

-- no two words have one upper number
unfoldable pub distinct : List ℕ → Bool
distinct [] = true
distinct (w ∷ ws) = if ltb (place (upper w) ws) (length ws) then false else distinct ws

-- a test of every word
unfoldable pub all : {A : Type 0} → (A → Bool) → List A → Bool
all p [] = true
all p (w ∷ ws) = if p w then all p ws else false
