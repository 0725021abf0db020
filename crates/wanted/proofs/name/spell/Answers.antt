-- `spell` meets its contract: the pieces of the name are written one after the other. Assumes nothing.
use native.Mathlib.Omega.{arith}
use Rattle.wanted.specs.Names.{name_of}
use Rattle.words.proofs.Placed.{writes_then}
use Rattle.wanted.proofs.Spelling.{numeral-length}
use Rattle.wanted.proofs.name.spell.Goals as goal

pub append_suffix-requires : goal.append_suffix-requires
append_suffix-requires c = omega (arith, numeral-length c.args.code.number)

pub returns : goal.returns
unfolding name_of
returns c =
    writes_then _ _ c.append-after_body.ensures
    (writes_then _ _ c.append_code-after_code.ensures c.append_suffix.ensures)
