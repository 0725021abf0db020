-- `read` meets its contract: what was found over one place is the degree, or none. Assumes nothing.
use mathlib.Core.Path.{sym, ap, ◌∙◌}
use Rattle.std.specs.Prelude.{Ok}
use Rattle.degree.proofs.Degrees.{one_value}
use Rattle.degree.proofs.read.Goals as goal

pub returns-in-Ok-eq1 : goal.returns-in-Ok-eq1
returns-in-Ok-eq1 c = one_value c.find-found.ensures (c.in-Ok-eq1.is ∙ ap Ok (sym c.in-Ok-eq1.field-0-is ∙ c.in-Ok-eq1.field-0-test)) _ c.announce.ensures
