-- The built-in table of "Elements wanted": "missing ones 0". Definitions only.
use Rattle.std.specs.Prelude.{ℕ, List, [], ◌∷◌, eqb, Float, Option, Some, None, if◌then◌else◌}
use Rattle.std.specs.Float.Ieee.{neg}
use Rattle.plain.specs.Doubles.{printed}
use Rattle.rotation.specs.declared.elements.Polynomial.{Polynomial}
use Rattle.rotation.specs.declared.elements.Elements.{Elements}
use Rattle.rotation.specs.declared.table.Axes.{Axes}

abbrev pub straight : (c0 c1 : Float) → Polynomial
straight c0 c1 = record { c0 = c0; c1 = c1; c2 = printed 0 0 }

-- RA, DEC and PM, two values each
abbrev pub row : (ra₀ ra₁ dec₀ dec₁ pm₀ pm₁ : Float) → Elements
row ra₀ ra₁ dec₀ dec₁ pm₀ pm₁ = record { ra = straight ra₀ ra₁; dec = straight dec₀ dec₁; pm = straight pm₀ pm₁ }

-- a printed negative number, and a value that is missing
abbrev pub minus : (n places : ℕ) → Float
minus n places = neg (printed n places)

abbrev pub missing : Float
missing = printed 0 0

unfoldable pub row_of : ℕ → Option Elements
unfolding printed neg
row_of n =
    if eqb n 10 then Some (row (printed 28613 2) missing (printed 6387 2) missing (printed 8410 2) (printed 141844 4))
    else (if eqb n 199 then Some (row (printed 28101 2) (minus 33 3) (printed 6145 2) (minus 5 3) (printed 329548 3) (printed 61385025 7))
    else (if eqb n 299 then Some (row (printed 27276 2) missing (printed 6716 2) missing (printed 16020 2) (minus 14813688 7))
    else (if eqb n 399 then Some (row (printed 0 0) (minus 641 3) (printed 90 0) (minus 557 3) (printed 190147 3) (printed 3609856235 7))
    else (if eqb n 499 then Some (row (printed 31768143 5) (minus 1061 4) (printed 5288650 5) (minus 609 4) (printed 176630 3) (printed 35089198226 8))
    else (if eqb n 599 then Some (row (printed 26805 2) (minus 9 3) (printed 6449 2) (printed 3 3) (printed 28495 2) (printed 870536642 6))
    else (if eqb n 699 then Some (row (printed 40589 3) (minus 36 3) (printed 83537 3) (minus 4 3) (printed 3890 2) (printed 8107939024 7))
    else (if eqb n 799 then Some (row (printed 257311 3) missing (minus 15175 3) missing (printed 20381 2) (minus 5011600928 7))
    else (if eqb n 899 then Some (row (printed 29936 2) missing (printed 4346 2) missing (printed 25318 2) (printed 5363128492 7))
    else (if eqb n 999 then Some (row (printed 31302 2) missing (printed 909 2) missing (printed 23677 2) (minus 563623195 7))
    else None)))))))))

-- "Neptune has one angle, 357.85 + 52.316 T, with 0.70, −0.51, −0.48."
abbrev pub neptune_angle : List Float
neptune_angle = printed 35785 2 ∷ printed 52316 3 ∷ []

abbrev pub neptune_ra : List Float
neptune_ra = printed 70 2 ∷ []

abbrev pub neptune_dec : List Float
neptune_dec = minus 51 2 ∷ []

abbrev pub neptune_pm : List Float
neptune_pm = minus 48 2 ∷ []

-- the radii in km: two equal ones and the third, or all three equal
abbrev pub axes : (a c : Float) → Axes
axes a c = record { a = a; b = a; c = c }

unfoldable pub size_of : ℕ → Option Axes
unfolding printed
size_of n =
    if eqb n 199 then Some (axes (printed 24397 1) (printed 24397 1))
    else (if eqb n 299 then Some (axes (printed 60518 1) (printed 60518 1))
    else (if eqb n 399 then Some (axes (printed 637814 2) (printed 635675 2))
    else (if eqb n 499 then Some (axes (printed 3397 0) (printed 3375 0))
    else (if eqb n 599 then Some (axes (printed 71492 0) (printed 66854 0))
    else (if eqb n 699 then Some (axes (printed 60268 0) (printed 54364 0))
    else (if eqb n 799 then Some (axes (printed 25559 0) (printed 24973 0))
    else (if eqb n 899 then Some (axes (printed 24764 0) (printed 24341 0))
    else (if eqb n 999 then Some (axes (printed 1195 0) (printed 1195 0))
    else None))))))))
