-- `walk` meets its contract: the statements passed hold no direct assignment to the name, and the first that is met is the last of all.
-- Assumes nothing.
use mathlib.Core.Path.{◌≡◌, refl, sym, ap, ◌∙◌}
use mathlib.Core.List.{◌++◌, ◌∷◌, []}
use Prim.Native.Nat.{ℕ, ◌+◌, ◌-◌}
use native.Mathlib.Omega.{arith}
use lib.ListN.{length, take, length-append}
use lib.Seq.{take-length}
use Rattle.std.proofs.lemmas.List.{length-reverse}
use Rattle.std.proofs.lemmas.Iterator.Adapters.{YieldsList-from_rev_slice}
use Rattle.std.proofs.lemmas.Iterator.Consumers.{YieldsList-turn, YieldsList-end}
use Rattle.words.specs.Halves.{sum}
use Rattle.words.proofs.Each.{words_of}
use Rattle.layout.specs.Memory.{text_words}
use Rattle.layout.proofs.Sound.{sound-of}
use Rattle.variables.proofs.Names.{Hands, length-hands, room-hands}
use Rattle.variables.proofs.Passing.{text_back, passed_none, values-left, count_left, strings-left, pass-other, pass-append, begins-here, begins-first}
use Rattle.variables.proofs.walk.walk.Goals as goal

pub texts-init : goal.texts-init
texts-init c =
    let S = sound-of c.args.pool.words.now c.args.pool.tested in
    let H : Hands c.args.pool.words.now c.args.name.bytes.now _ _ _ = record {
      sound = S;
      fit = words_of _ (λ i. omega (arith, c.type_inv.names i));
      legal= = c.args.name.ruled;
      words= = c.pack-words.ensures;
      heads= = c.heads-heads.ensures;
      names= = c.names-names.ensures;
    } in
    let z : length (text_words c.args.pool.words.now) - 0 ≡ length (text_words c.args.pool.words.now) = omega arith in
    (H, length-hands H ∙ sym (ap (λ (n : ℕ). sum (take n (text_words c.args.pool.words.now))) z ∙ ap sum (take-length (text_words c.args.pool.words.now)) ∙ S.statements=), rw c.totals-value.ensures (passed_none _ _ _ S (length-hands H)))

pub overflow_sub-first : goal.overflow_sub-first
overflow_sub-first c =
    let t = YieldsList-turn (YieldsList-from_rev_slice c.texts-texts.result.now cc) c.texts.yielded _ c.texts.yielded_by _ _ c.in-Some.text c.in-Some.is c.next.ensures.steps in
    omega (arith, c.texts.invariant.1, c.lower.ensures, text_back (text_words c.args.pool.words.now) (length c.texts.yielded) c.in-Some.text.now (rw c.texts-texts.ensures at t))

pub loop-s-init : goal.loop-s-init
loop-s-init c = let l = c.texts in (l.invariant.0, refl, omega arith, l.invariant.2)

pub texts-preserved : goal.texts-preserved
texts-preserved c =
    let i = c.loop-s.invariant in
    let t = YieldsList-turn (YieldsList-from_rev_slice c.texts-texts.result.now cc) c.texts.yielded _ c.texts.yielded_by _ _ c.in-Some.text c.in-Some.is c.next.ensures.steps in
    let b = text_back (text_words c.args.pool.words.now) (length c.texts.yielded) c.in-Some.text.now (rw c.texts-texts.ensures at t) in
    let n : length (c.texts.yielded ++ c.in-Some.text ∷ []) ≡ length c.texts.yielded + 1 = length-append c.texts.yielded (c.in-Some.text ∷ []) in (
      i.0,
      rw n (omega (arith, c.texts.invariant.1, c.lower.ensures, b, i.1, i.2, c.loop-s-test.false)),
      rw i.1 i.3,
    )

pub bounds-heads-s : goal.bounds-heads-s
bounds-heads-s c = let v = c.loop-s.invariant in omega (arith, v.3.within, length-hands v.0, c.loop-s-test.true)

pub overflow_sub-value : goal.overflow_sub-value
overflow_sub-value c = let v = c.loop-s.invariant in rw c.value_count-n.ensures (values-left v.0 v.3 (omega (arith, c.loop-s-test.true)))

pub is_named-requires : goal.is_named-requires
is_named-requires c = let v = c.loop-s.invariant in omega (arith, v.3.within, room-hands v.0, c.loop-s-test.true)

pub overflow_add-count : goal.overflow_add-count
overflow_add-count c = let v = c.loop-s.invariant in omega (arith, count_left v.0 v.3 (omega arith), c.value_count-n.ensures, v.0.sound.sizes.values)

pub overflow_add-strings : goal.overflow_add-strings
overflow_add-strings c =
    let v = c.loop-s.invariant in
    omega (arith, strings-left v.0 v.3 (omega arith) _ (rw c.value_count-n.ensures at c.strings_in-strings.ensures), v.0.sound.sizes.values)

pub loop-s-preserved-else-upper-eq-DIRECT : goal.loop-s-preserved-else-upper-eq-DIRECT
loop-s-preserved-else-upper-eq-DIRECT c =
    let v = c.loop-s.invariant in (
      v.0,
      refl,
      omega arith,
      rw c.value_count-n.ensures (pass-append v.0 v.3 (omega arith) _ c.is_named.ensures c.if-is_named.true _ (rw c.value_count-n.ensures at c.strings_in-strings.ensures) (rw c.upper.ensures at c.if-upper-eq-DIRECT.false)),
    )

pub loop-s-preserved : goal.loop-s-preserved
loop-s-preserved c =
    let v = c.loop-s.invariant in
    (v.0, refl, omega arith, rw c.value_count-n.ensures (pass-other v.0 v.3 (omega arith) _ c.is_named.ensures c.if-is_named.false))

pub returns-in-None : goal.returns-in-None
unfolding sum
returns-in-None c =
    let l = c.texts in
    let ws = text_words c.args.pool.words.now in
    let t = YieldsList-end (YieldsList-from_rev_slice c.texts-texts.result.now cc) l.yielded _ l.yielded_by _ _ c.in-None.is c.next.ensures.steps in
    let z : length ws - length l.yielded ≡ 0 = omega (arith, t.1, length-reverse c.texts-texts.result.now, ap length c.texts-texts.ensures) in
    begins-first _ _ _ _ _ _ (l.invariant.1 ∙ ap (λ (k : ℕ). sum (take k ws)) z) l.invariant.2

pub returns-then-upper-eq-DIRECT : goal.returns-then-upper-eq-DIRECT
returns-then-upper-eq-DIRECT c =
    let v = c.loop-s.invariant in
    rw c.value_count-n.ensures (begins-here v.0 v.3 (omega arith) _ c.is_named.ensures c.if-is_named.true _ (rw c.value_count-n.ensures at c.strings_in-strings.ensures) (rw c.upper.ensures at c.if-upper-eq-DIRECT.true))
