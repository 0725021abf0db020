-- `locate` meets its contract: the value that is wanted is always in a statement that is not passed yet. Assumes nothing.
use Prim.Native.Nat.{ℕ, ◌<◌}
use mathlib.Core.List.{List}
use native.Mathlib.Omega.{arith}
use lib.ListN.{length}
use Rattle.words.proofs.Each.{words_of}
use Rattle.layout.specs.Memory.{statement_count}
use Rattle.layout.proofs.Sound.{sound-of}
use Rattle.variables.proofs.Names.{Hands, length-hands, room-hands}
use Rattle.variables.proofs.Seeking.{sought-none, sought-found, sought-few, seek-other, seek-here, seek-past}
use Rattle.variables.proofs.spot.locate.Goals as goal
use Rattle.variables.proofs.spot.locate.Goals.{then-is_named+else-index-n, else-is_named}

pub loop-s-init : goal.loop-s-init
loop-s-init c =
    let H : Hands c.args.pool.words.now c.args.name.bytes.now _ _ _ = record {
      sound = sound-of c.args.pool.words.now c.args.pool.tested;
      fit = words_of _ (λ i. omega (arith, c.type_inv.names i));
      legal= = c.args.name.ruled;
      words= = c.pack-words.ensures;
      heads= = c.heads-heads.ensures;
      names= = c.names-names.ensures;
    } in
    (H, sought-none _ _ _ _ _ _ _ c.requires.begins c.requires.place_lt_count)

-- in the loop, at the statement s
there : {m name words heads names : List ℕ} {s : ℕ} → Hands m name words heads names → s < length heads → s < statement_count m
there H h = let e = length-hands H in omega arith

pub overflow_add-value : goal.overflow_add-value
overflow_add-value c =
    let v = c.loop-s.invariant in
    omega (arith, c.value_count-n.ensures, sought-few v.0 v.1 (there c.loop-s.invariant.0 c.loop-s-test.true))

pub is_named-requires : goal.is_named-requires
is_named-requires c = omega (arith, there c.loop-s.invariant.0 c.loop-s-test.true, room-hands c.loop-s.invariant.0)

pub returns-then-index-n : goal.returns-then-index-n
returns-then-index-n c =
    let v = c.loop-s.invariant in
    seek-here v.0 v.1 (there c.loop-s.invariant.0 c.loop-s-test.true) _ c.is_named.ensures c.if-is_named.true (rw c.value_count-n.ensures at c.if-index-n.true)

pub loop-s-preserved : goal.loop-s-preserved
loop-s-preserved c =
    let v = c.loop-s.invariant in
    elim c.if-is_named.branch [
      | then-is_named+else-index-n w ↦ (v.0, rw (w.index-is, c.value_count-n.ensures) (seek-past v.0 v.1 (there c.loop-s.invariant.0 c.loop-s-test.true) _ c.is_named.ensures w.if-is_named.true (rw c.value_count-n.ensures at w.if-index-n.false)))
      | else-is_named w ↦ (v.0, rw (w.index-is, c.value_count-n.ensures) (seek-other v.0 v.1 (there c.loop-s.invariant.0 c.loop-s-test.true) _ c.is_named.ensures w.if-is_named.false))
    ]

pub unreachable-requires : goal.unreachable-requires
unreachable-requires c =
    let v = c.loop-s.invariant in
    sought-found _ _ _ _ _ _ v.0.sound (omega (arith, c.loop-s-test.false, length-hands v.0)) v.1
