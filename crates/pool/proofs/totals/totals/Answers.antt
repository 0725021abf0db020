-- `totals` meets its contract: the totals of an undamaged memory are the counts. Assumes nothing.
use mathlib.Core.Path.{◌≡◌, sym}
use borrow.Author.Rules.{rules}
use Rattle.std.specs.Prelude.{Err}
use Rattle.refusal.specs.declared.Refusal.TheVariants.{DamagedPool}
use Rattle.pool.proofs.Tallying.{totals-refused, totals-held}
use Rattle.pool.proofs.totals.totals.Goals as goal

pub returns-in_err-pool : goal.returns-in_err-pool
returns-in_err-pool c =
    let r : c.from_residual.result ≡ Err DamagedPool = search rules in
    rw r (totals-refused c.args.pool.now (rw c.in_err-pool.ensures.ok_part at c.of.ensures))

pub returns : goal.returns
returns c =
    let n = rw c.in_ok-pool.ensures.ok_part at c.of.ensures in
    rw (sym n, c.totals-held.ensures) (totals-held _ c.in_ok-pool.pool.tested)
