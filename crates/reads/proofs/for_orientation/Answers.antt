-- `for_orientation` meets its contract: each arm is the name at its place, and past them there is none. Assumes nothing.
use native.Mathlib.Omega.{arith}
use Rattle.std.specs.Prelude.{Some}
use Rattle.reads.specs.Names.{orientation_names}
use Rattle.reads.proofs.Places.{at_place, past-last}
use Rattle.reads.proofs.for_orientation.Goals as goal

pub returns-in-0 : goal.returns-in-0
returns-in-0 c = at_place (orientation_names c.args.body.code.number (Some c.args.body.system.number)) c.in-0.is c.spell.ensures

pub returns-in-1 : goal.returns-in-1
returns-in-1 c = at_place (orientation_names c.args.body.code.number (Some c.args.body.system.number)) c.in-1.is c.spell-in-1.ensures

pub returns-in-2 : goal.returns-in-2
returns-in-2 c = at_place (orientation_names c.args.body.code.number (Some c.args.body.system.number)) c.in-2.is c.spell-in-2.ensures

pub returns-in-3 : goal.returns-in-3
returns-in-3 c = at_place (orientation_names c.args.body.code.number (Some c.args.body.system.number)) c.in-3.is c.spell-in-3.ensures

pub returns-in-4 : goal.returns-in-4
returns-in-4 c = at_place (orientation_names c.args.body.code.number (Some c.args.body.system.number)) c.in-4.is c.spell-in-4.ensures

pub returns-in-5 : goal.returns-in-5
returns-in-5 c = at_place (orientation_names c.args.body.code.number (Some c.args.body.system.number)) c.in-5.is c.spell-in-5.ensures

pub returns-in-6 : goal.returns-in-6
returns-in-6 c = at_place (orientation_names c.args.body.code.number (Some c.args.body.system.number)) c.in-6.is c.spell-in-6.ensures

pub returns-in-7 : goal.returns-in-7
returns-in-7 c = at_place (orientation_names c.args.body.code.number (Some c.args.body.system.number)) c.in-7.is c.spell-in-7.ensures

pub returns-in_default : goal.returns-in_default
returns-in_default c = past-last (orientation_names c.args.body.code.number (Some c.args.body.system.number)) c.args.place (omega arith)
