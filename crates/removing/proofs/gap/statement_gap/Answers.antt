-- `statement_gap` meets its contract: the statements before the text are the sum of the texts' numbers before it. Assumes nothing.
use mathlib.Core.Path.{ap₂, ◌∙◌}
use Rattle.layout.specs.Memory.{statement_count}
use Rattle.removing.specs.Gaps.{gap_among}
use Rattle.removing.proofs.gap.statement_gap.Goals as goal

pub returns : goal.returns
returns c =
    let m = c.args.m.now in
    c.gap_among.ensures ∙ ap₂ (gap_among (statement_count m)) c.sum_part-before.ensures c.lower-inside.ensures
