-- `all_filled` meets its contract: the chain asks each head for its number of values. Assumes nothing.
use mathlib.Core.Path.{◌∙◌}
use Rattle.std.proofs.Common.{rules, tests}
use Rattle.std.proofs.lemmas.Iterator.{YieldsList-from_slice}
use Rattle.std.proofs.lemmas.Iterator.Search.{all_from_yields_List}
use lib.Dec.{leb}
use Rattle.words.specs.Halves.{lower}
use Rattle.words.proofs.Chains.{list_all-all}
use Rattle.layout.proofs.check.all_filled.Goals as goal

pub returns : goal.returns
returns c =
    all_from_yields_List (λ h. leb 1 (lower h)) _ _ _ c.all.ensures.ran (YieldsList-from_slice c.args.heads.now cc) (λ x b q k. search (rules, tests))
    ∙ list_all-all (λ h. leb 1 (lower h)) c.args.heads.now
