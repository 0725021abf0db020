-- What `spell` wrote is a text, so `from_utf8` takes it. Assumes nothing.
use native.Mathlib.Omega.{arith}
use Rattle.std.proofs.lemmas.Grind.{common_steps}
use Rattle.std.specs.Str.{IsUtf8}
use Rattle.print.proofs.Texts.{digits-IsUtf8}
use Rattle.print.proofs.spelled.Goals as goal

pub unwrap-requires : goal.unwrap-requires
unwrap-requires c =
    let text : IsUtf8 c.spell.new.text = rw c.spell.ensures (digits-IsUtf8 _ _) in
    grind (arith, text, common_steps)
