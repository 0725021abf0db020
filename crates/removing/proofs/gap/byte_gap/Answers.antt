-- `byte_gap` meets its contract: the bytes before the statements, and of them, are taken by the values that their heads count.
-- Assumes nothing.
use mathlib.Core.Path.{◌≡◌, ap, ap₂, ◌∙◌}
use mathlib.Core.List.{List}
use Prim.Native.Nat.{ℕ, ◌+◌, ◌-◌, ◌≤◌}
use native.Mathlib.Omega.{arith}
use lib.ListN.{length, take, drop, length-drop}
use Rattle.words.specs.Halves.{sum}
use Rattle.words.specs.Over.{part}
use Rattle.words.proofs.Steps.{rest_part}
use Rattle.layout.specs.Limits.{HEADS_AT}
use Rattle.layout.specs.Memory.{value_count, byte_count, value_words}
use Rattle.layout.specs.Damage.{Counted, total_bytes}
use Rattle.layout.proofs.Areas.{length-values}
use Rattle.removing.specs.Gaps.{gap_among, values_before, Spanned}
use Rattle.removing.specs.declared.gap.Gap.{Gap}
use Rattle.removing.proofs.gap.byte_gap.Goals as goal

-- ---- over plain lists: heads and values that were read
module _ (s : Gap) (m vs : List ℕ) (z : Spanned s m) (v : vs ≡ value_words m) where
  all-values : length vs ≡ value_count m
  all-values = ap length v ∙ length-values m z.sizes

  counted-before : (hs : List ℕ) → hs ≡ part HEADS_AT s.before m → Counted hs vs
  counted-before hs h = record { within = omega (arith, ap sum h, all-values, z.values); few = omega (arith, all-values, z.sizes.values) }

  module _ (k : ℕ) (e : k ≡ values_before s m) where
    skipped : k ≤ length vs
    skipped = omega (arith, all-values, z.values)

    rest : take (length vs - k) (drop k vs) ≡ drop (values_before s m) (value_words m)
    rest = rest_part vs k ∙ ap₂ drop e v

    counted-inside : (hs : List ℕ) → hs ≡ part (HEADS_AT + s.before) s.inside m → Counted hs (take (length vs - k) (drop k vs))
    counted-inside hs h =
        let l : length (take (length vs - k) (drop k vs)) ≡ length vs - k = ap length (rest_part vs k) ∙ length-drop k vs in
        record { within = omega (arith, ap sum h, l, all-values, z.values); few = omega (arith, l, all-values, z.sizes.values) }

pub sum_bytes-before-requires : goal.sum_bytes-before-requires
sum_bytes-before-requires c = counted-before _ _ _ c.requires c.values_of-values.ensures _ c.part_of.ensures

pub slice_bounds-sum_bytes-count : goal.slice_bounds-sum_bytes-count
slice_bounds-sum_bytes-count c =
    omega (arith, skipped _ _ _ c.requires c.values_of-values.ensures _ c.sum_part-skipped.ensures)

pub slice_bounds-sum_bytes-start : goal.slice_bounds-sum_bytes-start
slice_bounds-sum_bytes-start c =
    omega (arith, skipped _ _ _ c.requires c.values_of-values.ensures _ c.sum_part-skipped.ensures)

pub sum_bytes-inside-requires : goal.sum_bytes-inside-requires
sum_bytes-inside-requires c =
    counted-inside _ _ _ c.requires c.values_of-values.ensures _ c.sum_part-skipped.ensures _ c.part_of-2.ensures

pub gap_among-requires : goal.gap_among-requires
gap_among-requires c = omega (arith, (c.sum_bytes-before.ensures ∙ ap₂ total_bytes c.part_of.ensures c.values_of-values.ensures), (c.sum_bytes-inside.ensures ∙ ap₂ total_bytes c.part_of-2.ensures (rest _ _ _ c.requires c.values_of-values.ensures _ c.sum_part-skipped.ensures)), c.requires.bytes)

pub returns : goal.returns
returns c =
    let m = c.args.m.now in
    let e = (c.sum_bytes-before.ensures ∙ ap₂ total_bytes c.part_of.ensures c.values_of-values.ensures) in
    let f = (c.sum_bytes-inside.ensures ∙ ap₂ total_bytes c.part_of-2.ensures (rest _ _ _ c.requires c.values_of-values.ensures _ c.sum_part-skipped.ensures)) in
    c.gap_among.ensures ∙ ap₂ (gap_among (byte_count m)) e f
