-- `tapers` meets its contract: after name bytes only there is nothing left. Assumes nothing.
use mathlib.Core.Path.{sym, ◌∙◌}
use Rattle.octets.specs.Octets.{bytes_of}
use Rattle.names.proofs.Filling.{ends_named}
use Rattle.names.proofs.legible.tapers.Goals as goal

pub returns-then-is_whole : goal.returns-then-is_whole
returns-then-is_whole c = c.if-is_whole.true ∙ sym (ends_named (bytes_of c.args.w) (c.is_whole.ensures c.if-is_whole.true))
