-- A group that there is lies within the list, and its nested sum grows by a step with each value before it. Assumes nothing.
use mathlib.Core.Path.{◌≡◌, ◌∙◌}
use mathlib.Core.List.{List}
use Prim.Native.Nat.{ℕ, suc, ◌+◌, ◌-◌, ◌*◌, ◌≤◌, ◌<◌}
use native.Mathlib.Nat.{sub_self, suc-mul, mul_comm, le-div_iff_mul-le}
use native.Mathlib.Omega.{arith}
use lib.Ieee.{Float, nan}
use lib.ListN.{get_or}
use Rattle.plain.specs.Doubles.{◌⊕◌, ◌⊗◌}
use Rattle.rotation.specs.Elements.{groups, nested}
use Rattle.rotation.specs.declared.epoch.Centuries.{Centuries}

-- group i of so many values, where they are more than i groups
pub group-within : (degree i count : ℕ) → i < groups degree count → (degree + 1) * i + degree < count
group-within degree i count h =
    let size = degree + 1 in
    let k : suc i * size ≤ count = (le-div_iff_mul-le {k = size} {x = suc i} {y = count} (omega arith)).0 h in
    omega (arith, suc-mul i size, mul_comm i size)

module _ (t : Centuries) (xs : List Float) (at : ℕ) where
  -- from the highest: the last value, and none after it
  pub nested-last : (more : ℕ) → get_or xs (at + more) nan ≡ nested t xs (at + more) (more - more)
  unfolding nested
  nested-last more = rw (sub_self more)

  -- inward: the value before, and one more after it
  pub nested-before : (i more : ℕ) (sum r : Float) → 0 < i → i ≤ more → sum ≡ nested t xs (at + i) (more - i)
      → r ≡ get_or xs (at + (i - 1)) nan ⊕ t.0 ⊗ sum → r ≡ nested t xs (at + (i - 1)) (more - (i - 1))
  unfolding nested
  nested-before i more sum r h k e f =
      let a : more - (i - 1) ≡ suc (more - i) = omega arith in
      let b : at + (i - 1) + 1 ≡ at + i = omega arith in
      rw (a, b, f, e)

  -- to the first
  pub nested-whole : (i more : ℕ) (sum : Float) → i ≤ 0 → sum ≡ nested t xs (at + i) (more - i) → sum ≡ nested t xs at more
  nested-whole i more sum h e =
      let a : at + i ≡ at = omega arith in
      let b : more - i ≡ more = omega arith in
      e ∙ rw (a, b)
