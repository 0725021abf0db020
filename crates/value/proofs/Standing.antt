-- A byte that stands at a place of a line stands in the line, for past its end there is none. Assumes nothing.
use Prim.Native.Nat.{ℕ, zero, suc, ◌<◌}
use native.Mathlib.Nat.{not-suc-le-zero}
use native.Mathlib.Omega.{arith}
use mathlib.Core.Path.{◌≡◌, sym, ◌∙◌}
use mathlib.Core.Bool.{Bool, true}
use mathlib.Core.List.{List, [], ◌∷◌}
use borrow.Author.Tests.{eqb-true}
use lib.ListN.{length, get_or}
use Rattle.value.specs.Classes.{stands}

positive : (bs : List ℕ) (i : ℕ) → 0 < get_or bs i 0 → i < length bs
positive [] i h = absurd (not-suc-le-zero h)
positive (b ∷ bs) zero h = omega arith
positive (b ∷ bs) (suc i) h = omega (arith, positive bs i h)

pub stands-within : (b : ℕ) (line : List ℕ) (i : ℕ) (t : Bool) → 0 < b → t ≡ stands b line i → t ≡ true → i < length line
stands-within b line i t h e q =
    let z : get_or line i 0 ≡ b = eqb-true (get_or line i 0) b (sym e ∙ q) in
    positive line i (omega arith)
