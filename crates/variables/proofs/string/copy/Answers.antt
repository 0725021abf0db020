-- `copy` meets its contract: the bytes are read where they stand, if they have room. Assumes nothing.
use mathlib.Core.Path.{ap}
use native.Mathlib.Omega.{arith}
use lib.ListN.{length}
use Rattle.layout.proofs.Areas.{length-values}
use Rattle.layout.proofs.Sound.{sound-of}
use Rattle.variables.proofs.Spelling.{copies-none, copied-fits, copies-bytes}
use Rattle.variables.proofs.string.copy.Goals as goal

pub offset_bounds-values-value : goal.offset_bounds-values-value
offset_bounds-values-value c =
    let z = (sound-of c.args.pool.words.now c.args.pool.tested).sizes in
    omega (arith, ap length c.values.ensures, length-values _ z, c.requires.held, z.values)

pub bounds-values-value : goal.bounds-values-value
bounds-values-value c =
    let z = (sound-of c.args.pool.words.now c.args.pool.tested).sizes in
    omega (arith, ap length c.values.ensures, length-values _ z, c.requires.held)

pub returns-then-out-long : goal.returns-then-out-long
returns-then-out-long c = copies-none _ c.values.ensures _ _ _ (omega (arith, c.if-out-long.true))

pub copy_bytes-requires : goal.copy_bytes-requires
copy_bytes-requires c =
    let S = sound-of c.args.pool.words.now c.args.pool.tested in
    record {
      fits = omega (arith, copied-fits _ c.values.ensures _ _ c.args.out.now S c.requires c.bytes.ensures);
      room = omega (arith, c.if-out-long.false);
    }

pub returns : goal.returns
returns c =
    let S = sound-of c.args.pool.words.now c.args.pool.tested in
    copies-bytes _ c.values.ensures _ _ _ S c.requires c.bytes.ensures c.if-out-long.false _ c.copy_bytes.ensures
