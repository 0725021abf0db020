-- Radii found over three places: three values are the axes that are admitted, any other number and any string is refused. Assumes nothing.
use mathlib.Core.Path.{◌≡◌}
use mathlib.Core.Bool.{Bool}
use mathlib.Core.List.{List}
use Prim.Native.Nat.{ℕ}
use native.Mathlib.Omega.{arith}
use borrow.Author.Tests.{eq-eqb}
use lib.Ieee.{Float}
use lib.ListN.{length}
use Rattle.std.specs.Prelude.{Result, Ok}
use Rattle.variables.specs.declared.variable.FindError.{FindError}
use Rattle.globe.specs.Radii.{axes, admitted, measured}
use Rattle.wanted.specs.Steps.{Looks}
use Rattle.wanted.proofs.Found.{counted}
use Rattle.wanted.proofs.Fronts.{over-all}

module _ {there numeric : Bool} {xs before after : List Float} {r : Result ℕ FindError} (l : Looks there numeric xs before r after) (size : length before ≡ 3) where
  pub three : r ≡ Ok 3 → admitted (axes after) ≡ measured there numeric xs
  three e =
      let f = counted l 3 e in
      let t : length xs ≡ length before = omega (arith, f.count) in
      let u : length xs ≡ 3 = omega arith in
      simp (f.present, f.numbers, eq-eqb (length xs) 3 u, f.written, over-all xs before t)
