-- `with_byte` meets its contract: the byte that stood there is taken away, and the other one put in its place. Assumes nothing.
use native.Mathlib.Omega.{arith}
use Rattle.octets.proofs.Eight.{changes}
use Rattle.octets.proofs.word.with_byte.Goals as goal

pub returns : goal.returns
returns c =
    rw (c.from.ensures, c.byte_of-old.ensures, c.from-2.ensures)
    (changes c.args.w c.args.b c.args.r (omega arith) (omega arith) c.requires)
