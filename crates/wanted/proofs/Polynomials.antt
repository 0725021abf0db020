-- A variable found over three zeros: which of the cases of `values_of` it is. Assumes nothing.
use mathlib.Core.Path.{◌≡◌, refl, ap, ◌∙◌}
use mathlib.Core.Bool.{Bool}
use mathlib.Core.List.{List, [], ◌∷◌}
use Prim.Native.Nat.{ℕ, ◌≤◌}
use native.Mathlib.Omega.{arith}
use borrow.Author.Tests.{lt-leb, le-leb}
use lib.Ieee.{Float, nan}
use lib.ListN.{length, get_or}
use Rattle.plain.specs.Doubles.{nought}
use Rattle.rotation.specs.declared.elements.Polynomial.{Polynomial}
use Rattle.std.specs.Prelude.{Result, Ok, Err}
use Rattle.words.specs.Over.{over}
use Rattle.variables.specs.declared.variable.FindError.{FindError}
use Rattle.variables.specs.declared.variable.FindError.TheVariants as F
use Rattle.wanted.specs.Elements.{polynomial}
use Rattle.wanted.specs.Steps.{Looks, values_of, presence}
use Rattle.wanted.proofs.Found.{counted, crowded, mixed, absent}

-- three zeros
abbrev pub zeros : List Float
zeros = nought ∷ nought ∷ nought ∷ []

-- the first three values of a buffer
abbrev pub first_three : List Float → Polynomial
first_three buffer = record { c0 = get_or buffer 0 nan; c1 = get_or buffer 1 nan; c2 = get_or buffer 2 nan }

-- "missing ones 0"
missing-zero : (xs : List Float) → length xs ≤ 3 → first_three (over 0 xs zeros) ≡ polynomial xs
unfolding over
missing-zero [] h = refl
missing-zero (a ∷ []) h = refl
missing-zero (a ∷ b ∷ []) h = refl
missing-zero (a ∷ b ∷ c ∷ []) h = refl
missing-zero (a ∷ b ∷ c ∷ d ∷ xs) h = absurd (omega arith)

pub few : {there numeric : Bool} {xs after : List Float} {r : Result ℕ FindError} → Looks there numeric xs zeros r after → (n : ℕ) → r ≡ Ok n → (n ≡ 0 → ⊥)
    → Ok (first_three after) ≡ values_of there numeric xs
few {xs = xs} l n e k =
    let f = counted l n e in
    rw (f.present, f.numbers, le-leb 1 (length xs) (omega arith), le-leb (length xs) 3 f.roomy)
    (ap Ok (ap first_three f.written ∙ missing-zero xs f.roomy))

-- ---- a variable that is no polynomial, found over three places

module _ {there numeric : Bool} {xs before after : List Float} {r : Result ℕ FindError} (l : Looks there numeric xs before r after) (size : length before ≡ 3) where
  pub too_few : (n : ℕ) → r ≡ Ok n → n ≡ 0 → Err F.TooMany ≡ values_of there numeric xs
  too_few n e k = let f = counted l n e in rw (f.present, f.numbers, lt-leb 1 (length xs) (omega arith))

  too_many : r ≡ Err F.TooMany → Err F.TooMany ≡ values_of there numeric xs
  too_many e =
      let f = crowded l e in
      rw (f.present, f.numbers, le-leb 1 (length xs) (omega arith), lt-leb (length xs) 3 (omega (arith, f.crowded)))

  -- what is not found is refused as it was
  pub refused : (e : FindError) → r ≡ Err e → Err e ≡ values_of there numeric xs
  refused F.TooMany e = too_many e
  refused F.Mixed e = let f = mixed l e in rw (f.present, f.strings)
  refused F.Absent e = rw (absent l e)

-- a variable counts as one at most
pub presence-most : (v : Result Polynomial FindError) → presence v ≤ 1
presence-most (Ok p) = omega arith
presence-most (Err F.TooMany) = omega arith
presence-most (Err F.Mixed) = omega arith
presence-most (Err F.Absent) = omega arith
