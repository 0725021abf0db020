-- `show_statements` meets its contract: the lines written and those of the statements that are left are the variable's. Assumes nothing.
use Prim.Native.Nat.{◌<◌}
use native.Mathlib.Omega.{arith}
use Rattle.words.proofs.Each.{words_of}
use Rattle.layout.specs.Memory.{statement_count}
use Rattle.layout.proofs.Sound.{sound-of}
use Rattle.variables.proofs.Names.{Hands, length-hands, room-hands}
use Rattle.shown.proofs.Told.{told_none, told-all, values-end, told-other, told-stating, told_more}
use Rattle.shown.proofs.values.show_statements.Goals as goal
use Rattle.shown.proofs.values.show_statements.Goals.{then-is_named, else-is_named}

pub loop-s-init : goal.loop-s-init
loop-s-init c =
    let H : Hands c.args.pool.words.now c.args.name.bytes.now _ _ _ = record {
      sound = sound-of c.args.pool.words.now c.args.pool.tested;
      fit = words_of _ (λ i. omega (arith, c.type_inv.names i));
      legal= = c.args.name.ruled;
      words= = c.pack-words.ensures;
      heads= = c.heads-heads.ensures;
      names= = c.names-names.ensures;
    } in
    (H, told_none _ _ _ _ _ _ _ _ c.requires.begins)

pub overflow_add-value : goal.overflow_add-value
overflow_add-value c =
    let v = c.loop-s.invariant in
    omega (arith, c.value_count-value.ensures, values-end v.0 v.1 (omega (arith, c.loop-s-test.true, length-hands c.loop-s.invariant.0)), v.0.sound.sizes.values)

pub is_named-requires : goal.is_named-requires
is_named-requires c = omega (arith, c.loop-s-test.true, length-hands c.loop-s.invariant.0, room-hands c.loop-s.invariant.0)

pub show_statement-end-requires : goal.show_statement-end-requires
show_statement-end-requires c =
    let v = c.loop-s.invariant in
    told-stating v.0 v.1 (omega (arith, c.loop-s-test.true, length-hands c.loop-s.invariant.0)) _ c.is_named.ensures c.if-is_named.true c.requires.room

pub loop-s-preserved : goal.loop-s-preserved
loop-s-preserved c =
    let v = c.loop-s.invariant in
    let here : c.loop-s.s < statement_count c.args.pool.words.now = omega (arith, c.loop-s-test.true, length-hands v.0) in
    elim c.if-is_named.branch [
      | then-is_named w ↦ (v.0, rw (w.end-is, w.out-is, c.value_count-value.ensures) (told_more v.0 v.1 here _ c.is_named.ensures w.if-is_named.true w.show_statement-end.ensures))
      | else-is_named w ↦ (v.0, rw (w.end-is, w.out-is, c.value_count-value.ensures) (told-other v.0 v.1 here _ c.is_named.ensures w.if-is_named.false))
    ]

pub returns : goal.returns
returns c =
    let v = c.loop-s.invariant in
    told-all v.0.sound (omega (arith, c.loop-s-test.false, length-hands v.0)) v.1
