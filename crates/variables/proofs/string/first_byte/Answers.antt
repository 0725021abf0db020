-- `first_byte` meets its contract: the bytes of the statements before, and of the strings before. Assumes nothing.
use mathlib.Core.Path.{ap}
use native.Mathlib.Omega.{arith}
use lib.ListN.{length}
use Rattle.words.specs.Halves.{sum}
use Rattle.layout.proofs.Sound.{sound-of}
use Rattle.variables.proofs.Strings.{statements-before, values-before, counted-before, length_before, byte-before, byte-few}
use Rattle.variables.proofs.string.first_byte.Goals as goal

pub slice_bounds-sum_bytes-end : goal.slice_bounds-sum_bytes-end
slice_bounds-sum_bytes-end c =
    statements-before (sound-of c.args.pool.words.now c.args.pool.tested) c.heads.ensures c.values-values.ensures c.requires

pub sum_bytes-before-requires : goal.sum_bytes-before-requires
sum_bytes-before-requires c =
    counted-before (sound-of c.args.pool.words.now c.args.pool.tested) c.heads.ensures c.values-values.ensures c.requires

pub part_of-requires : goal.part_of-requires
part_of-requires c =
    values-before (sound-of c.args.pool.words.now c.args.pool.tested) c.heads.ensures c.values-values.ensures c.requires

pub sum_lower-inside-requires : goal.sum_lower-inside-requires
sum_lower-inside-requires c =
    omega (arith, ap length c.part_of.ensures, length_before (sound-of c.args.pool.words.now c.args.pool.tested) c.heads.ensures c.values-values.ensures c.requires)

pub overflow_add-result : goal.overflow_add-result
overflow_add-result c =
    omega (
      arith,
      c.sum_bytes-before.ensures,
      c.sum_lower-inside.ensures,
      ap sum c.part_of.ensures,
      byte-few (sound-of c.args.pool.words.now c.args.pool.tested) c.heads.ensures c.values-values.ensures c.requires,
    )

pub returns : goal.returns
returns c =
    omega (
      arith,
      c.sum_bytes-before.ensures,
      c.sum_lower-inside.ensures,
      ap sum c.part_of.ensures,
      byte-before (sound-of c.args.pool.words.now c.args.pool.tested) c.heads.ensures c.values-values.ensures c.requires,
    )
