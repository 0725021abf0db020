-- `after_counted`: what stands behind a byte has lost it at least. Assumes nothing.
use Rattle.std.proofs.Common.{ap, arith, length}
use Rattle.std.proofs.lemmas.List.{length-drop}
use Rattle.script.proofs.after_counted.Goals as goal

pub returns-clause-shorter : goal.returns-clause-shorter
returns-clause-shorter c =
    let rest = c.past.result.now in
    omega (
      arith,
      ap length c.past-2.ensures,
      length-drop 1 rest,
      ap length c.past.ensures,
      length-drop c.args.count c.args.bytes.now,
    )
