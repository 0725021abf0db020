-- `by_elements` meets its contract: how many of the three are there decides which step is next. Assumes nothing.
use mathlib.Core.Path.{◌≡◌}
use Prim.Native.Nat.{ℕ, ◌+◌}
use native.Mathlib.Omega.{arith}
use Rattle.layout.specs.State.{Pool}
use Rattle.layout.specs.Memory.{decode}
use Rattle.wanted.specs.Elements.{there, numeric, list}
use Rattle.wanted.specs.Steps.{values_of, presence}
use Rattle.std.specs.Prelude.{Result}
use Rattle.rotation.specs.declared.elements.Polynomial.{Polynomial}
use Rattle.variables.specs.declared.variable.FindError.{FindError}
use Rattle.wanted.specs.declared.name.Wanted.{Wanted}
use Rattle.wanted.specs.declared.name.Wanted.TheVariants as W
use Rattle.globe.proofs.Ordered.{none-there, some-missing, all_there}
use Rattle.globe.proofs.orientation.by_elements.Goals as goal

-- what the texts have of a variable
abbrev held : Pool → (n : ℕ) → Wanted → Result Polynomial FindError
held s n w = values_of (there s n w) (numeric s n w) (list s n w)

-- the code's number is how many of the three the texts have
tallied : (s : Pool) (n : ℕ) {count : ℕ} {ra dec pm : Result Polynomial FindError} → count ≡ presence ra + presence dec + presence pm
    → ra ≡ held s n W.PoleRa → dec ≡ held s n W.PoleDec → pm ≡ held s n W.Pm
    → count ≡ presence (held s n W.PoleRa) + presence (held s n W.PoleDec) + presence (held s n W.Pm)
tallied s n e f g h = rw (e, f, g, h)

pub returns-then-held-eq0 : goal.returns-then-held-eq0
returns-then-held-eq0 c =
    let a = c.args in
    let t = tallied (decode a.pool.words.now) a.body.code.number c.count_held-held.ensures c.polynomial_of-ra.ensures c.polynomial_of-dec.ensures c.polynomial_of-pm.ensures in
    none-there _ _ _ _ (rw (← t) c.if-held-eq0.true)

pub returns-then-held-lt3 : goal.returns-then-held-lt3
returns-then-held-lt3 c =
    let a = c.args in
    let t = tallied (decode a.pool.words.now) a.body.code.number c.count_held-held.ensures c.polynomial_of-ra.ensures c.polynomial_of-dec.ensures c.polynomial_of-pm.ensures in
    some-missing _ _ _ _ (rw (← t) (omega arith)) (rw (← t) c.if-held-lt3.true)

pub returns : goal.returns
returns c =
    let a = c.args in
    let t = tallied (decode a.pool.words.now) a.body.code.number c.count_held-held.ensures c.polynomial_of-ra.ensures c.polynomial_of-dec.ensures c.polynomial_of-pm.ensures in
    rw (
      c.by_nutation.ensures,
      c.assemble-base.ensures,
      c.polynomial_of-ra.ensures,
      c.polynomial_of-dec.ensures,
      c.polynomial_of-pm.ensures,
    )
    (all_there (decode a.pool.words.now) a.body.code.number a.body.system.number a.epoch (rw (← t) c.if-held-lt3.false))
