-- `close_areas` meets its contract: the bytes and the areas are closed one after the other. Assumes nothing.
use mathlib.Core.Path.{◌≡◌, ap, ap₂, ◌∙◌}
use mathlib.Core.List.{List}
use Prim.Native.Nat.{ℕ}
use native.Mathlib.Omega.{arith}
use Rattle.layout.specs.Limits.{TEXTS_AT, HEADS_AT, NAMES_AT, VALUES_AT}
use Rattle.removing.specs.Gaps.{closing, closing_bytes, fourfold, whole, closed}
use Rattle.removing.specs.declared.gap.Gap.{Gap}
use Rattle.removing.proofs.gap.close_areas.Goals as goal

pub close_area-requires-3 : goal.close_area-requires-3
close_area-requires-3 c = omega (arith, ap whole c.fourfold.ensures)

-- the five memories, each from the one before it
in-turn : (t s v b f : Gap) (m m₀ m₁ m₂ m₃ m₄ : List ℕ) → m₀ ≡ closing_bytes b m → m₁ ≡ closing TEXTS_AT t m₀ → m₂ ≡ closing HEADS_AT s m₁ → f ≡ fourfold s → m₃ ≡ closing NAMES_AT f m₂
    → m₄ ≡ closing VALUES_AT v m₃ → m₄ ≡ closed t s v b m
unfolding closed
in-turn t s v b f m m₀ m₁ m₂ m₃ m₄ e₀ e₁ e₂ q e₃ e₄ =
    e₄ ∙ ap (closing VALUES_AT v) (e₃ ∙ ap₂ (closing NAMES_AT) q (e₂ ∙ ap (closing HEADS_AT s) (e₁ ∙ ap (closing TEXTS_AT t) e₀)))

pub returns : goal.returns
returns c =
    let a = c.args in
    in-turn a.texts a.statements a.values a.bytes c.fourfold.result a.m.now _ _ _ _ _
    c.close_bytes.ensures c.close_area.ensures c.close_area-2.ensures c.fourfold.ensures c.close_area-3.ensures c.close_area-4.ensures
