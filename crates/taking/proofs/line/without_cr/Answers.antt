-- `without_cr` meets its contract: a CR at the end goes, and another byte stays. Assumes nothing.
use mathlib.Core.Path.{ap, ◌∙◌}
use mathlib.Core.List.{List}
use Prim.Native.Nat.{ℕ}
use Rattle.std.proofs.Common.{Bor}
use Rattle.taking.proofs.Lines.{without-stripped}
use Rattle.taking.proofs.line.without_cr.Goals as goal

pub returns : goal.returns
returns c =
    ap (λ (b : Bor (List ℕ)). b.now) c.unwrap_or.ensures ∙ without-stripped c.args.bytes _ c.strip_suffix.ensures.cases
