-- `all_zero` meets its contract: the chain tests each word. Assumes nothing.
use mathlib.Core.Path.{◌∙◌}
use Rattle.std.proofs.Common.{rules, tests}
use Rattle.std.proofs.lemmas.Iterator.{YieldsList-from_slice}
use Rattle.std.proofs.lemmas.Iterator.Search.{all_from_yields_List}
use lib.Dec.{eqb}
use Rattle.plain.proofs.Tests.{eqb_swap}
use Rattle.words.proofs.Chains.{list_all-all}
use Rattle.words.proofs.scan.all_zero.Goals as goal

pub returns : goal.returns
returns c =
    all_from_yields_List (eqb 0) _ _ _ c.all.ensures.ran (YieldsList-from_slice c.args.ws.now cc) (λ x b q k. search (rules, tests, eqb_swap))
    ∙ list_all-all (eqb 0) c.args.ws.now
