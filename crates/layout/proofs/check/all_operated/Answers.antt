-- `all_operated` meets its contract: the chain asks each head for its upper number. Assumes nothing.
use mathlib.Core.Path.{◌∙◌}
use Rattle.std.proofs.Common.{rules, tests}
use Rattle.std.proofs.lemmas.Iterator.{YieldsList-from_slice}
use Rattle.std.proofs.lemmas.Iterator.Search.{all_from_yields_List}
use lib.Dec.{leb}
use Rattle.words.specs.Halves.{upper}
use Rattle.words.proofs.Chains.{list_all-all}
use Rattle.layout.proofs.check.all_operated.Goals as goal

pub returns : goal.returns
returns c =
    all_from_yields_List (λ h. leb (upper h) 3) _ _ _ c.all.ensures.ran (YieldsList-from_slice c.args.heads.now cc) (λ x b q k. search (rules, tests))
    ∙ list_all-all (λ h. leb (upper h) 3) c.args.heads.now
