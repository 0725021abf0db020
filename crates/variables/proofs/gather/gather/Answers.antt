-- `gather` meets its contract: what is left to write makes, from the place reached on, the variable that is wanted. Assumes nothing.
use mathlib.Core.Path.{ap, ◌∙◌}
use mathlib.Core.List.{List, map}
use Prim.Native.Nat.{ℕ, ◌<◌}
use native.Mathlib.Omega.{arith}
use lib.Ieee.{binary64, of_bits}
use lib.ListN.{length}
use Rattle.words.specs.Over.{over}
use Rattle.words.specs.Halves.{all}
use Rattle.words.proofs.Each.{words_of}
use Rattle.layout.specs.Memory.{statement_count}
use Rattle.layout.specs.Damage.{small}
use Rattle.layout.proofs.Areas.{length-values}
use Rattle.layout.proofs.Sound.{sound-of}
use Rattle.variables.proofs.Names.{Hands, length-hands, room-hands}
use Rattle.variables.proofs.Gathering.{gathered_none, gathered-all, bits-within, bits_small, length-bits, gather-other, gather-room, gather-copy}
use Rattle.variables.proofs.gather.gather.Goals as goal
use Rattle.variables.proofs.gather.gather.Goals.{then-is_named, else-is_named}

pub loop-s-init : goal.loop-s-init
loop-s-init c =
    let H : Hands c.args.pool.words.now c.args.name.bytes.now _ _ _ = record {
      sound = sound-of c.args.pool.words.now c.args.pool.tested;
      fit = words_of _ (λ i. omega (arith, c.type_inv.names i));
      legal= = c.args.name.ruled;
      words= = c.pack-words.ensures;
      heads= = c.heads-heads.ensures;
      names= = c.names-names.ensures;
    } in
    (H, c.values-values.ensures, gathered_none _ _ _ _ _ _ _ c.requires.begins c.requires.numbers_with_room.0 c.requires.numbers_with_room.1)

-- in the loop, at the statement s
there : {m name words heads names : List ℕ} {s : ℕ} → Hands m name words heads names → s < length heads → s < statement_count m
there H h = let e = length-hands H in omega arith

pub overflow_add-value : goal.overflow_add-value
overflow_add-value c =
    let v = c.loop-s.invariant in
    omega (arith, c.value_count-n.ensures, bits-within v.0 _ v.1 v.2 (there c.loop-s.invariant.0 c.loop-s-test.true), ap length v.1, length-values _ v.0.sound.sizes, v.0.sound.sizes.values)

pub is_named-requires : goal.is_named-requires
is_named-requires c = omega (arith, there c.loop-s.invariant.0 c.loop-s-test.true, room-hands c.loop-s.invariant.0)

pub part_of-requires : goal.part_of-requires
part_of-requires c =
    let v = c.loop-s.invariant in
    rw c.value_count-n.ensures (bits-within v.0 _ v.1 v.2 (there c.loop-s.invariant.0 c.loop-s-test.true))

pub copy_doubles-requires : goal.copy_doubles-requires
copy_doubles-requires c =
    let v = c.loop-s.invariant in
    let e = rw c.value_count-n.ensures at c.part_of.ensures in
    let t = there v.0 c.loop-s-test.true in
    record {
      bits_in_bounds = omega (arith, ap length e, length-bits v.0 _ v.1 v.2 t, gather-room v.0 _ v.1 v.2 t _ c.is_named.ensures c.if-is_named.true);
      all_small = ap (all small) e ∙ bits_small v.0 _ v.1 v.2 t _ c.is_named.ensures c.if-is_named.true;
    }

pub overflow_add-at : goal.overflow_add-at
overflow_add-at c =
    let v = c.loop-s.invariant in
    omega (arith, c.value_count-n.ensures, gather-room v.0 _ v.1 v.2 (there v.0 c.loop-s-test.true) _ c.is_named.ensures c.if-is_named.true, v.2.long)

pub loop-s-preserved : goal.loop-s-preserved
loop-s-preserved c =
    let v = c.loop-s.invariant in
    let t = there v.0 c.loop-s-test.true in
    elim c.if-is_named.branch [
      | then-is_named w ↦ (
        v.0,
        v.1,
        rw (w.out-is, w.at-is, c.value_count-n.ensures) (gather-copy v.0 _ v.1 v.2 t _ c.is_named.ensures w.if-is_named.true _
            (w.copy_doubles.ensures ∙ ap (λ (l : List ℕ). over c.loop-s.at (map (of_bits binary64) l) c.loop-s.out) (rw c.value_count-n.ensures at w.part_of.ensures))),
      )
      | else-is_named w ↦ (v.0, v.1, rw (w.out-is, w.at-is, c.value_count-n.ensures) (gather-other v.0 _ v.1 v.2 t _ c.is_named.ensures w.if-is_named.false))
    ]

pub returns : goal.returns
returns c =
    let v = c.loop-s.invariant in
    gathered-all _ _ _ _ _ _ _ v.0.sound (omega (arith, c.loop-s-test.false, length-hands v.0)) v.2
