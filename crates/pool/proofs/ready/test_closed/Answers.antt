-- `test_closed` meets its contract: its tests are those of the definition, in their order. Assumes nothing.
use mathlib.Core.Path.{sym, ◌∙◌}
use native.Mathlib.Omega.{arith}
use Rattle.layout.proofs.Sound.{sound-of}
use Rattle.pool.specs.Ready.{with_none_open}
use Rattle.pool.proofs.ready.test_closed.Goals as goal

pub returns-then-not-is_sound : goal.returns-then-not-is_sound
unfolding with_none_open
returns-then-not-is_sound c = rw (sym c.is_sound.ensures ∙ c.if-not-is_sound.true)

pub is_open-requires : goal.is_open-requires
is_open-requires c = omega (arith, (sound-of c.args.pool.now (sym c.is_sound.ensures ∙ c.if-not-is_sound.false)).sizes.words)

pub returns-then-is_open : goal.returns-then-is_open
unfolding with_none_open
returns-then-is_open c = rw (sym c.is_sound.ensures ∙ c.if-not-is_sound.false, sym c.is_open.ensures ∙ c.if-is_open.true)

pub returns : goal.returns
unfolding with_none_open
returns c = rw (sym c.is_sound.ensures ∙ c.if-not-is_sound.false, sym c.is_open.ensures ∙ c.if-is_open.false)
