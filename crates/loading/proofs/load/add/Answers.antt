-- `add` meets its contract: the text's word, what the text adds and the front make the state with one text more. Assumes nothing.
use native.Mathlib.Omega.{arith}
use Rattle.words.proofs.Each.{words_of}
use Rattle.layout.proofs.Sound.{sound-of}
use Rattle.loading.proofs.Adding.{leaves, admits, added-put}
use Rattle.loading.proofs.load.add.Goals as goal

pub pen_behind-pen-requires : goal.pen_behind-pen-requires
pen_behind-pen-requires c =
    let z = (sound-of _ c.requires.undamaged).sizes in
    (z.statements, z.values)

pub overflow_add-texts : goal.overflow_add-texts
overflow_add-texts c = omega (arith, (sound-of _ c.requires.undamaged).sizes.texts)

pub overflow_add-label : goal.overflow_add-label
overflow_add-label c = omega (arith, (leaves _ _ _ _ _ _ c.requires).statements, c.ranges.label)

pub write_text-requires : goal.write_text-requires
write_text-requires c =
    admits _ _ _ _ _ _ c.requires _ c.pen_behind-pen.ensures

pub overflow_add-texts-2 : goal.overflow_add-texts-2
overflow_add-texts-2 c = omega (arith, (leaves _ _ _ _ _ _ c.requires).texts)

pub overflow_add-opened : goal.overflow_add-opened
overflow_add-opened c = omega (arith, (leaves _ _ _ _ _ _ c.requires).statements)

pub overflow_add-given : goal.overflow_add-given
overflow_add-given c = omega (arith, (leaves _ _ _ _ _ _ c.requires).values)

pub overflow_add-spelled : goal.overflow_add-spelled
overflow_add-spelled c = omega (arith, (leaves _ _ _ _ _ _ c.requires).bytes)

pub returns : goal.returns
returns c =
    added-put _ _ _ _ _ _ c.requires (words_of c.args.pool.now (λ i. omega (arith, c.fits-pool i))) _ _ _ _ _ c.pen_behind-pen.ensures c.store.ensures c.write_text.ensures c.write_front.ensures
