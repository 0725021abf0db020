-- `fetch_string` meets its contract: a damaged pool is refused, and otherwise what is found is answered. Assumes nothing.
use mathlib.Core.Path.{◌≡◌, sym}
use borrow.Author.Rules.{rules}
use Rattle.std.specs.Prelude.{Err}
use Rattle.refusal.specs.declared.Refusal.TheVariants.{DamagedPool}
use Rattle.pool.proofs.Fetching.{string-damaged, string-found}
use Rattle.pool.proofs.fetch_string.fetch_string.Goals as goal

pub returns-in_err-pool : goal.returns-in_err-pool
returns-in_err-pool c =
    let r : c.from_residual.result ≡ Err DamagedPool = search rules in
    rw r (string-damaged _ _ _ _ (rw c.in_err-pool.ensures.ok_part at c.of.ensures))

pub returns : goal.returns
returns c =
    let n = rw c.in_ok-pool.ensures.ok_part at c.of.ensures in
    rw (sym n) (string-found _ _ _ _ _ _ _ c.in_ok-pool.pool.tested c.answer.ensures c.string.ensures)
