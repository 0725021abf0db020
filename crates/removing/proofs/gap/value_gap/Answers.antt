-- `value_gap` meets its contract: the values before the statements, and of them, are sums of the heads' numbers. Assumes nothing.
use mathlib.Core.Path.{ap₂, ◌∙◌}
use Rattle.removing.specs.Gaps.{gap_among}
use Rattle.layout.specs.Memory.{value_count}
use Rattle.removing.proofs.gap.value_gap.Goals as goal

pub returns : goal.returns
returns c =
    let m = c.args.m.now in
    let e = c.sum_part-before.ensures in
    let f = c.sum_part-inside.ensures in
    c.gap_among.ensures ∙ ap₂ (gap_among (value_count m)) e f
