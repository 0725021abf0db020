-- `totals` meets its contract: undamaged words have the fixed size. Assumes nothing.
use native.Mathlib.Omega.{arith}
use Rattle.layout.proofs.Sound.{framed}
use Rattle.layout.proofs.undamaged.Undamaged.totals.Goals as goal

pub totals_of-requires : goal.totals_of-requires
totals_of-requires c = omega (arith, (framed _ c.args.self.tested).words)
