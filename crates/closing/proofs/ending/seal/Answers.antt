-- `seal` meets its contract: the limits are kept, so each sum fits its word. Assumes nothing.
use native.Mathlib.Omega.{arith}
use mathlib.Core.Path.{ap, ◌∙◌}
use Rattle.words.specs.Over.{over}
use Rattle.closing.proofs.Closing.{framed}
use Rattle.closing.proofs.ending.seal.Goals as goal

pub bounds-pool-0 : goal.bounds-pool-0
bounds-pool-0 c = omega (arith, (framed c.requires).words)

pub bounds-pool-1 : goal.bounds-pool-1
bounds-pool-1 c = omega (arith, (framed c.requires).words)

pub bounds-pool-2 : goal.bounds-pool-2
bounds-pool-2 c = omega (arith, (framed c.requires).words)

pub bounds-pool-3 : goal.bounds-pool-3
bounds-pool-3 c = omega (arith, (framed c.requires).words)

pub returns : goal.returns
returns c = c.write_front.ensures ∙ ap (over 0 _) c.store.ensures
