-- `is_named` meets its contract: the statement's part of the names is compared. Assumes nothing.
use mathlib.Core.Path.{ap, ◌∙◌}
use mathlib.Core.List.{List}
use Prim.Native.Nat.{ℕ}
use Rattle.plain.specs.Lists.{equal}
use Rattle.variables.proofs.name.is_named.Goals as goal

pub returns : goal.returns
returns c =
    c.same.ensures ∙ ap (λ (l : List ℕ). equal l c.args.words.now) c.part_of.ensures
