-- `bytes_taper` meets its contract: a name byte that is shifted out changes nothing of what is asked, and each turn has one less.
-- Assumes nothing.
use mathlib.Core.Path.{◌≡◌, refl, sym, ◌∙◌}
use mathlib.Core.Bool.{true}
use Prim.Native.Nat.{◌/◌}
use native.Mathlib.Omega.{arith}
use Rattle.value.specs.Classes.{name_byte}
use Rattle.plain.proofs.Tests.{eqb_swap}
use Rattle.names.proofs.Tapering.{HIGHEST, ends_next, run-next, ends-here}
use Rattle.names.proofs.legible.bytes_taper.Goals as goal

pub loop-rest-init : goal.loop-rest-init
loop-rest-init c = (omega arith, refl)

named : (c : goal.In-loop-rest) → name_byte (c.loop-rest.rest / HIGHEST) ≡ true
named c = sym c.is_name_byte.ensures ∙ c.loop-rest-test.true

pub loop-rest-smaller : goal.loop-rest-smaller
loop-rest-smaller c = let r = c.loop-rest in omega (arith, run-next r.rest r.invariant.0 (named c))

pub loop-rest-preserved : goal.loop-rest-preserved
loop-rest-preserved c = let r = c.loop-rest in (omega arith, ends_next r.rest r.invariant.0 (named c) ∙ r.invariant.1)

pub returns : goal.returns
returns c =
    let r = c.loop-rest in
    eqb_swap r.rest 0 ∙ sym (ends-here r.rest r.invariant.0 (sym c.is_name_byte.ensures ∙ c.loop-rest-test.false)) ∙ r.invariant.1
