-- `byte_at` meets its contract: the byte is in the word at an eighth of its place. Assumes nothing.
use mathlib.Core.Path.{sym, ◌∙◌}
use Rattle.octets.proofs.Bytes.{octet, octet-past}
use Rattle.octets.proofs.read.byte_at.Goals as goal

pub returns-then-k-ws : goal.returns-then-k-ws
returns-then-k-ws c = c.byte_of.ensures ∙ sym (octet c.args.ws.now c.args.i)

pub returns : goal.returns
returns c = octet-past c.args.ws.now c.args.i c.if-k-ws.false
