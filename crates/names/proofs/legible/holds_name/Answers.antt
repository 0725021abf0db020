-- `holds_name` meets its contract: words that begin with one that is not zero hold a name exactly when they taper. Assumes nothing.
use mathlib.Core.Path.{◌≡◌, refl, sym, ap, ◌∙◌}
use mathlib.Core.Bool.{Bool, true, false, not}
use Prim.Native.Nat.{ℕ}
use native.Mathlib.Omega.{arith}
use borrow.Author.Tests.{eq-eqb, eqb-true}
use lib.Dec.{eqb}
use Rattle.plain.proofs.Tests.{true-false}
use Rattle.names.proofs.Tapering.{holds-none, holds-zero, holds-some}
use Rattle.names.proofs.legible.holds_name.Goals as goal
use Rattle.names.proofs.legible.holds_name.Goals.{then-not-is_empty, else-not-is_empty}

is_zero : (a : ℕ) → not (eqb a 0) ≡ false → a ≡ 0
is_zero a e = by (eqb a 0) refl e
  where
    by : (t : Bool) → eqb a 0 ≡ t → not t ≡ false → a ≡ 0
    by true q n = eqb-true a 0 q
    by false q n = true-false n

pub returns-then-ws-ne0 : goal.returns-then-ws-ne0
returns-then-ws-ne0 c =
    elim c.if-not-is_empty.branch [
      | then-not-is_empty w ↦ c.all_taper.ensures ∙ sym (holds-some _ (omega (arith, c.type_inv.ws 0)) (λ z. true-false (sym c.if-ws-ne0.true ∙ w.value-is ∙ ap not (eq-eqb _ _ z))))
      | else-not-is_empty w ↦ true-false (sym c.if-ws-ne0.true ∙ w.value-is ∙ ap not w.if-not-is_empty.false)
    ]

pub returns-else-ws-ne0 : goal.returns-else-ws-ne0
returns-else-ws-ne0 c =
    elim c.if-not-is_empty.branch [
      | then-not-is_empty w ↦ c.if-ws-ne0.false ∙ sym (holds-zero _ (is_zero _ (sym w.value-is ∙ c.if-ws-ne0.false)))
      | else-not-is_empty w ↦ c.if-ws-ne0.false ∙ sym (holds-none _ (eqb-true _ _ (sym c.is_empty.ensures ∙ w.if-not-is_empty.false)))
    ]
