-- `is_sound` meets its contract: what is held is asked first, and then the open text. Assumes nothing.
use mathlib.Core.Path.{◌≡◌, refl, sym, ap, ◌∙◌}
use mathlib.Core.Bool.{Bool, true, ◌&&◌}
use mathlib.Core.List.{List}
use Prim.Native.Nat.{ℕ}
use native.Mathlib.Omega.{arith}
use Rattle.std.specs.Prelude.{if◌then◌else◌}
use Rattle.layout.specs.Limits.{TEXTS}
use Rattle.layout.specs.Memory.{opens}
use Rattle.layout.specs.Damage.{orderly, orderly_open, sound}
use Rattle.layout.specs.Totals.{under, own_totals}
use Rattle.layout.specs.declared.front.Totals.{Totals}
use Rattle.layout.proofs.Areas.{under-own}
use Rattle.layout.proofs.Sound.{orderly-of, unsized}
use Rattle.layout.proofs.check.is_sound.Goals as goal

-- what is held, and the open text
held_then : {h o : Bool} (m : List ℕ) → orderly TEXTS m ≡ h → opens m ≡ o → sound m ≡ h && (if o then orderly_open m else true)
unfolding sound
held_then m e f = λ i. e i && (if f i then orderly_open m else true)

pub returns-then-m-ne-WORDS : goal.returns-then-m-ne-WORDS
unfolding sound
returns-then-m-ne-WORDS c =
    let m = c.args.m.now in
    sym (ap (λ (x : Bool). x && (if opens m then orderly_open m else true)) (unsized TEXTS m c.if-m-ne-WORDS.true))

-- what is asked of the memory under its own totals
asked : (m : List ℕ) (u : Totals) (r : Bool) → u ≡ own_totals m → r ≡ orderly TEXTS (under u m) → r ≡ orderly TEXTS m
asked m u r e h = h ∙ ap (λ (x : Totals). orderly TEXTS (under x m)) e ∙ ap (orderly TEXTS) (under-own m)

pub returns-then-not-is_orderly : goal.returns-then-not-is_orderly
returns-then-not-is_orderly c =
    let m = c.args.m.now in
    sym (held_then m (sym (asked m _ _ c.totals_of.ensures c.is_orderly.ensures) ∙ c.if-not-is_orderly.true) refl)

pub returns-then-not-is_open : goal.returns-then-not-is_open
returns-then-not-is_open c =
    let m = c.args.m.now in
    let held = sym (asked m _ _ c.totals_of.ensures c.is_orderly.ensures) ∙ c.if-not-is_orderly.false in
    sym (held_then m held (sym c.is_open.ensures ∙ c.if-not-is_open.true))

pub is_open_orderly-requires : goal.is_open_orderly-requires
is_open_orderly-requires c =
    let held = sym (asked c.args.m.now _ _ c.totals_of.ensures c.is_orderly.ensures) ∙ c.if-not-is_orderly.false in
    let S = orderly-of TEXTS _ (omega arith) held in
    record { sizes = S.sizes; few = S.few }

pub returns : goal.returns
returns c =
    let m = c.args.m.now in
    let held = sym (asked m _ _ c.totals_of.ensures c.is_orderly.ensures) ∙ c.if-not-is_orderly.false in
    c.is_open_orderly.ensures ∙ sym (held_then m held (sym c.is_open.ensures ∙ c.if-not-is_open.false))
