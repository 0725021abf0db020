-- `all_short` meets its contract: the chain asks each length. Assumes nothing.
use mathlib.Core.Path.{◌∙◌}
use Rattle.std.proofs.Common.{rules, tests}
use Rattle.std.proofs.lemmas.Iterator.{YieldsList-from_slice}
use Rattle.std.proofs.lemmas.Iterator.Search.{all_from_yields_List}
use lib.Dec.{leb}
use Rattle.value.specs.Strings.{STRING}
use Rattle.words.proofs.Chains.{list_all-all}
use Rattle.layout.proofs.check.all_short.Goals as goal

pub returns : goal.returns
returns c =
    all_from_yields_List (λ w. leb w STRING) _ _ _ c.all.ensures.ran (YieldsList-from_slice c.args.values.now cc) (λ x b q k. search (rules, tests))
    ∙ list_all-all (λ w. leb w STRING) c.args.values.now
