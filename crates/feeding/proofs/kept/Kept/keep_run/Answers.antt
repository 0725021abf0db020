-- `keep_run` meets its contract: the run has room, or is cut where the line is full. Assumes nothing.
use native.Mathlib.Omega.{arith}
use Rattle.feeding.proofs.Longer.{keeps-room, keeps-squeezed}
use Rattle.feeding.proofs.kept.Kept.keep_run.Goals as goal

pub returns-then-run-free : goal.returns-then-run-free
returns-then-run-free c = keeps-room c.args.self c.args.run.now c.store.result (omega arith) _ c.store.ensures

pub returns : goal.returns
returns c =
    keeps-squeezed c.args.self c.args.run.now c.store-full.result (omega arith) (omega arith) (omega arith)
    c.store-full.ensures c.squeeze.result c.squeeze.ensures _
