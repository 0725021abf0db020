-- `eight_at` meets its contract: the bytes fill a word, or begin in one and end in the next. Assumes nothing.
use Prim.Native.Nat.{◌+◌, ◌-◌, ◌*◌, ◌/◌, ◌%◌, ◌^◌}
use native.Mathlib.Omega.{arith}
use lib.ListN.{get_or}
use Rattle.words.specs.Over.{part}
use Rattle.words.proofs.Each.{WORD}
use Rattle.octets.specs.Octets.{octets}
use Rattle.octets.proofs.Across.{Joined, eight-here, eight-across}
use Rattle.octets.proofs.read.eight_at.Goals as goal

pub returns-then-r-eq0 : goal.returns-then-r-eq0
returns-then-r-eq0 c =
    eight-here c.args.ws.now c.args.i c.requires.fits c.if-r-eq0.true

joined : (c : goal.After-shared_slice_known-3-1)
    → Joined (get_or c.args.ws.now (c.args.i / 8) 0 * 2 ^ (8 * (c.args.i % 8)) % WORD)
    (get_or c.args.ws.now (c.args.i / 8 + 1) 0 / 2 ^ (64 - 8 * (c.args.i % 8)))
    (part c.args.i 8 (octets c.args.ws.now))
joined c =
    let a = c.args in
    eight-across a.ws.now a.i c.requires.fits c.if-r-eq0.false (omega (arith, c.shared_slice_known-3-1.given (a.i / 8))) (omega (arith, c.shared_slice_known-3-1.given (a.i / 8 + 1)))

pub overflow_add-result-2 : goal.overflow_add-result-2
overflow_add-result-2 c = record { fits = (joined c).fits }

pub returns : goal.returns
returns c = (joined c).bytes
