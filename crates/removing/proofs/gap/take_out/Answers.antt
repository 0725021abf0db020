-- `take_out` meets its contract: the four gaps are found, closed in every area, and what is left is counted. Assumes nothing.
use mathlib.Core.Path.{◌≡◌, sym, ap, subst, ◌∙◌}
use mathlib.Core.List.{List, [], ◌∷◌}
use Prim.Native.Nat.{ℕ}
use native.Mathlib.Omega.{arith}
use Rattle.words.specs.Over.{over}
use Rattle.layout.specs.Memory.{NONE_OPEN}
use Rattle.removing.specs.Gaps.{text_gap, statement_gap, value_gap, byte_gap, left, closed, taken_out, Spanned, Gapped, Closes}
use Rattle.removing.specs.declared.gap.Gap.{Gap}
use Rattle.removing.proofs.gap.take_out.Goals as goal
use Rattle.removing.proofs.gap.take_out.Goals.{After-close_areas}

-- ---- over plain memories and gaps
-- the gaps of the text at a place
record Found (p : ℕ) (m : List ℕ) (t s v b : Gap) : Type 0 where
  texts : t ≡ text_gap p m
  statements : s ≡ statement_gap p m
  values : v ≡ value_gap (statement_gap p m) m
  bytes : b ≡ byte_gap (statement_gap p m) m

find : (p : ℕ) (m : List ℕ) (t s v b : Gap) → t ≡ text_gap p m → s ≡ statement_gap p m → v ≡ value_gap s m → b ≡ byte_gap s m → Found p m t s v b
find p m t s v b et es ev eb = record { texts = et; statements = es; values = ev ∙ ap (λ (g : Gap). value_gap g m) es; bytes = eb ∙ ap (λ (g : Gap). byte_gap g m) es }

module _ (p : ℕ) (m : List ℕ) (t s v b : Gap) (F : Found p m t s v b) where
  fit : Gapped p m → Closes t s v b m
  fit G =
      let z = G.rest.sizes in
      let own : Closes (text_gap p m) (statement_gap p m) (value_gap (statement_gap p m) m) (byte_gap (statement_gap p m) m) m = record {
        words = z.words;
        texts = omega (arith, G.text, z.texts);
        statements = omega (arith, G.rest.statements, z.statements);
        values = omega (arith, G.rest.values, z.values);
        bytes = omega (arith, G.rest.bytes, z.bytes);
      } in
      subst (λ (g : Gap). Closes g s v b m) (sym F.texts)
      (subst (λ (g : Gap). Closes (text_gap p m) g v b m) (sym F.statements)
      (subst (λ (g : Gap). Closes (text_gap p m) (statement_gap p m) g b m) (sym F.values)
      (subst (λ (g : Gap). Closes (text_gap p m) (statement_gap p m) (value_gap (statement_gap p m) m) g m) (sym F.bytes) own)))

  out : (x y z u : ℕ) (m₁ m₂ : List ℕ) → x ≡ left t → y ≡ left s → z ≡ left v → u ≡ left b → m₁ ≡ closed t s v b m → m₂ ≡ over 0 (x ∷ y ∷ z ∷ u ∷ NONE_OPEN ∷ []) m₁ → m₂ ≡ taken_out p m
  unfolding taken_out
  out x y z u m₁ m₂ ex ey ez eu e₁ e₂ =
      e₂ ∙ (λ i. over 0 (ex i ∷ ey i ∷ ez i ∷ eu i ∷ NONE_OPEN ∷ []) (e₁ i))
      ∙ (λ i. over 0 (left (F.texts i) ∷ left (F.statements i) ∷ left (F.values i) ∷ left (F.bytes i) ∷ NONE_OPEN ∷ []) (closed (F.texts i) (F.statements i) (F.values i) (F.bytes i) m))

pub value_gap-values-requires : goal.value_gap-values-requires
value_gap-values-requires c =
    subst (λ (g : Gap). Spanned g c.args.m.now) (sym c.statement_gap-statements.ensures) c.requires.rest

pub byte_gap-bytes-requires : goal.byte_gap-bytes-requires
byte_gap-bytes-requires c =
    subst (λ (g : Gap). Spanned g c.args.m.now) (sym c.statement_gap-statements.ensures) c.requires.rest

pub close_areas-requires : goal.close_areas-requires
close_areas-requires c =
    fit _ _ _ _ _ _ (find _ _ _ _ _ _ c.text_gap-texts.ensures c.statement_gap-statements.ensures c.value_gap-values.ensures c.byte_gap-bytes.ensures) c.requires

-- the gaps that the four calls found
found : (c : After-close_areas) → Found c.args.place c.args.m.now c.text_gap-texts.result c.statement_gap-statements.result c.value_gap-values.result c.byte_gap-bytes.result
found c = find _ _ _ _ _ _ c.text_gap-texts.ensures c.statement_gap-statements.ensures c.value_gap-values.ensures c.byte_gap-bytes.ensures

closes : (c : After-close_areas) → Closes c.text_gap-texts.result c.statement_gap-statements.result c.value_gap-values.result c.byte_gap-bytes.result c.args.m.now
closes c = fit _ _ _ _ _ _ (found c) c.requires

pub left-requires : goal.left-requires
left-requires c = omega (arith, (closes (goal.at.left-requires c).After-close_areas).texts)

pub left-requires-2 : goal.left-requires-2
left-requires-2 c = omega (arith, (closes (goal.at.left-requires-2 c).After-close_areas).statements)

pub left-requires-3 : goal.left-requires-3
left-requires-3 c = omega (arith, (closes (goal.at.left-requires-3 c).After-close_areas).values)

pub left-requires-4 : goal.left-requires-4
left-requires-4 c = omega (arith, (closes (goal.at.left-requires-4 c).After-close_areas).bytes)

pub returns : goal.returns
returns c =
    out _ _ _ _ _ _ (found (goal.at.returns c).After-close_areas) _ _ _ _ _ _
    c.left.ensures c.left-2.ensures c.left-3.ensures c.left-4.ensures c.close_areas.ensures c.write_front.ensures
