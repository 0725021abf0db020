-- `for_radii` meets its contract: the name at place 0, and none at another. Assumes nothing.
use native.Mathlib.Omega.{arith}
use Rattle.std.specs.Prelude.{Some}
use Rattle.reads.specs.Names.{radii_names}
use Rattle.reads.proofs.Places.{at_place, past-last}
use Rattle.reads.proofs.for_radii.Goals as goal

pub returns-in-0 : goal.returns-in-0
returns-in-0 c = at_place (radii_names c.args.body.code.number (Some c.args.body.system.number)) c.in-0.is c.spell.ensures

pub returns-in_default : goal.returns-in_default
returns-in_default c = past-last (radii_names c.args.body.code.number (Some c.args.body.system.number)) c.args.place (omega arith)
