-- `read_value` meets its contract: either way out is one case of `value_at`. Assumes nothing.
use native.Mathlib.Omega.{arith}
use mathlib.Core.Path.{sym}
use Rattle.plain.specs.Bytes.{QUOTE}
use Rattle.value.specs.Value.{value_at}
use Rattle.value.proofs.Standing.{stands-within}
use Rattle.value.proofs.read_value.Goals as goal

pub read_string-requires : goal.read_string-requires
read_string-requires c =
    let a = c.args in
    stands-within QUOTE a.line.now a.at _ (omega arith) c.stands.ensures c.if-stands.true

pub returns-then-stands : goal.returns-then-stands
unfolding value_at
returns-then-stands c = simp (sym c.stands.ensures, c.if-stands.true) c.read_string.ensures

pub returns : goal.returns
unfolding value_at
returns c = simp (sym c.stands.ensures, c.if-stands.false) c.read_number.ensures
