-- `are_counted` meets its contract: the heads' counts are as many as there are values, so that both sums over them may be asked. Assumes nothing.
use mathlib.Core.Path.{sym, ◌∙◌}
use Rattle.layout.proofs.Asking.{counted}
use Rattle.layout.proofs.check.are_counted.Goals as goal

pub all_fit-requires : goal.all_fit-requires
all_fit-requires c = counted c.requires (sym c.is_summed.ensures ∙ c.if-not-is_summed.false)

pub sum_bytes-requires : goal.sum_bytes-requires
sum_bytes-requires c = counted c.requires (sym c.is_summed.ensures ∙ c.if-not-is_summed.false)
