-- `of_body` meets its contract: what was found over three places is three values, or a refusal. Assumes nothing.
use mathlib.Core.Path.{refl, sym, ap, ◌∙◌}
use Rattle.std.specs.Prelude.{Ok}
use Rattle.globe.proofs.Axes.{three}
use Rattle.globe.proofs.radii.of_body.Goals as goal

pub returns-in-Ok-eq3 : goal.returns-in-Ok-eq3
returns-in-Ok-eq3 c =
    c.admit.ensures
    ∙ three c.find-found.ensures refl (c.in-Ok-eq3.is ∙ ap Ok (sym c.in-Ok-eq3.field-0-is ∙ c.in-Ok-eq3.field-0-test))
