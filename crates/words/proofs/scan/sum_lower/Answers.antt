-- `sum_lower` meets its contract: the chain sums the lower number of each word. Assumes nothing.
use mathlib.Core.Path.{◌∙◌}
use Rattle.std.proofs.Common.{rules, tests}
use Rattle.std.proofs.lemmas.Iterator.{YieldsList-from_slice, YieldsList-from_map}
use Rattle.std.proofs.lemmas.Iterator.Consumers.{sum_by_from_yields_List, YieldsList-at}
use Rattle.words.specs.Halves.{lower}
use Rattle.words.proofs.Chains.{sum_by-lower}
use Rattle.words.proofs.scan.sum_lower.Goals as goal

pub returns : goal.returns
returns c =
    let ws = c.args.ws.now in
    sum_by_from_yields_List lower ws c.map.result _ c.sum.ensures.ran
    (YieldsList-from_map _ lower (YieldsList-at c.map.ensures.source (YieldsList-from_slice ws cc)) c.map.ensures.closure (λ x r q k. search (rules, tests)))
    ∙ sum_by-lower ws
