-- `string` meets its contract: the counts tell whether the place is there and whether all values are strings, and the string that is
-- located is copied. Assumes nothing.
use mathlib.Core.Path.{◌≡◌, sym}
use native.Mathlib.Omega.{arith}
use borrow.Author.Rules.{rules}
use Rattle.std.specs.Prelude.{Err}
use Rattle.layout.proofs.Sound.{sound-of}
use Rattle.layout.proofs.Holds.{decode-legal}
use Rattle.variables.specs.declared.variable.FindError.TheVariants.{Absent}
use Rattle.variables.proofs.Presence.{absent-empty, illegal-absent}
use Rattle.variables.proofs.Spelling.{begins-strings, stands-spelt, stands-few, stands-placed, spells-absent, spells-zero, spells-past, spells-mixed, spells-string}
use Rattle.variables.proofs.string.string.Goals as goal
use Rattle.variables.proofs.string.string.Goals.{then-place-eq0-via-then-place-eq0, then-place-eq0-via-else-place-eq0+then-start-place}

pub returns-in_err-name : goal.returns-in_err-name
returns-in_err-name c =
    let r : c.from_residual.result ≡ Err Absent = search rules in
    let n = rw c.in_err-name.ensures.ok_part at c.of.ensures in
    let L = decode-legal c.args.pool.words.now (sound-of c.args.pool.words.now c.args.pool.tested) in
    rw r (spells-absent _ _ _ _ (absent-empty c.args.name.now _ (illegal-absent c.args.name.now _ L n)))

pub returns-then-place-eq0 : goal.returns-then-place-eq0
returns-then-place-eq0 c =
    let n = rw c.in_ok-name.ensures.ok_part at c.of.ensures in
    rw (sym n) (elim c.then-place-eq0.branch [
      | then-place-eq0-via-then-place-eq0 w ↦ spells-zero _ _ _ _ w.if-place-eq0.true
      | then-place-eq0-via-else-place-eq0+then-start-place w ↦ spells-past _ _ _ _ (omega (arith, c.walk-start.ensures.size, w.if-start-place.true))
    ])

pub returns-then-start : goal.returns-then-start
returns-then-start c =
    let n = rw c.in_ok-name.ensures.ok_part at c.of.ensures in
    rw (sym n) (spells-mixed _ _ _ _ (omega (arith, c.if-place-eq0.false)) (omega (arith, c.walk-start.ensures.size, c.if-start-place.false))
    (omega (arith, c.walk-start.ensures.size, c.walk-start.ensures.kinds, c.if-start.true)))

pub locate-spot-requires : goal.locate-spot-requires
locate-spot-requires c =
    record {
      begins = c.walk-start.ensures;
      place_lt_count = omega (arith, c.if-place-eq0.false, c.if-start-place.false);
    }

pub first_byte-byte-requires : goal.first_byte-byte-requires
first_byte-byte-requires c =
    stands-spelt (sound-of c.args.pool.words.now c.args.pool.tested) c.locate-spot.ensures

pub overflow_add-value : goal.overflow_add-value
overflow_add-value c =
    let S = sound-of c.args.pool.words.now c.args.pool.tested in
    omega (arith, stands-few S c.locate-spot.ensures, S.sizes.values)

pub copy-requires : goal.copy-requires
copy-requires c =
    let a = begins-strings c.walk-start.ensures (omega (arith, c.if-start.false)) in
    stands-placed (sound-of c.args.pool.words.now c.args.pool.tested) c.locate-spot.ensures a _ c.first_byte-byte.ensures

pub returns : goal.returns
returns c =
    let n = rw c.in_ok-name.ensures.ok_part at c.of.ensures in
    let a = begins-strings c.walk-start.ensures (omega (arith, c.if-start.false)) in
    rw (sym n) (spells-string _ _ _ _ (omega (arith, c.if-place-eq0.false)) (omega (arith, c.walk-start.ensures.size, c.if-start-place.false))
    (sound-of c.args.pool.words.now c.args.pool.tested) c.locate-spot.ensures a _ c.first_byte-byte.ensures _ _ c.copy.ensures)
