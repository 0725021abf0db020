-- `of` meets its contract: a code that has a system is short, and so is the system. Assumes nothing.
use mathlib.Core.Path.{◌≡◌}
use native.Mathlib.Omega.{arith}
use Rattle.std.specs.Prelude.{Some}
use Rattle.rotation.specs.Codes.{system_of}
use Rattle.wanted.proofs.Codes.{short-code}
use Rattle.wanted.proofs.code.Body.of.Goals as goal

pub invariant_of-result : goal.invariant_of-result
invariant_of-result c =
    let e : Some c.in_ok-system.system ≡ system_of c.args.code = grind arith in
    record { short = (short-code _ _ e).0 }

pub invariant_of-result-2 : goal.invariant_of-result-2
invariant_of-result-2 c =
    let e : Some c.in_ok-system.system ≡ system_of c.args.code = grind arith in
    record { short = (short-code _ _ e).1 }
