-- "a nested series closes from its innermost term: q = 1, then q = 1 − (z / p)·q for each p." Definitions only.
use Rattle.std.specs.Prelude.{List, [], ◌∷◌, ℕ, ◌-◌, Float, length, drop}
use Rattle.plain.specs.Doubles.{◌⊖◌, ◌⊗◌, ◌⊘◌, printed, one}

-- the series from q on, over the divisors that remain
unfoldable pub closing : (z q : Float) → List Float → Float
closing z q [] = q
closing z q (p ∷ ps) = closing z (one ⊖ z ⊘ p ⊗ q) ps

-- "For S, p is 210, 156, 110, 72, 42, 20, 6"
abbrev pub sine_divisors : List Float
sine_divisors = printed 210 0 ∷ printed 156 0 ∷ printed 110 0 ∷ printed 72 0 ∷ printed 42 0 ∷ printed 20 0 ∷ printed 6 0 ∷ []

-- "for C, p is 240, 182, 132, 90, 56, 30, 12, 2"
abbrev pub cosine_divisors : List Float
cosine_divisors =
    printed 240 0 ∷ printed 182 0 ∷ printed 132 0 ∷ printed 90 0 ∷ printed 56 0 ∷ printed 30 0 ∷ printed 12 0 ∷ printed 2 0 ∷ []

-- the last n of a list, which remain when those before them are taken up
abbrev pub last : ℕ → List Float → List Float
last n ps = drop (length ps - n) ps
