-- `load` meets its contract: each test in its order, and the accepted text put last. Assumes nothing.
use mathlib.Core.Path.{sym, ◌∙◌}
use native.Mathlib.Omega.{arith}
use Rattle.layout.proofs.Sound.{sound-of}
use Rattle.pool.proofs.Tested.{passed_on, closed-sound}
use Rattle.loading.proofs.Loading.{text-counted, unready, label-held, too_long, fault-told, no_room, accepts, done, place-fits}
use Rattle.loading.proofs.load.load.Goals as goal

pub returns-in_err-test_closed : goal.returns-in_err-test_closed
returns-in_err-test_closed c = rw (passed_on c.from_residual.result c.from_residual.ensures.1) (unready _ _ _ _ (sym c.in_err-test_closed.ensures))

pub is_held-requires : goal.is_held-requires
is_held-requires c = (sound-of _ (closed-sound _ (sym c.in_ok-test_closed.ensures))).sizes

pub returns-then-is_held : goal.returns-then-is_held
returns-then-is_held c = rw c.into.ensures (label-held _ _ _ (sym c.in_ok-test_closed.ensures) (sym c.is_held.ensures ∙ c.if-is_held.true))

pub returns-then-text-gt-LONGEST_LOAD : goal.returns-then-text-gt-LONGEST_LOAD
returns-then-text-gt-LONGEST_LOAD c = rw c.into-then-text-gt-LONGEST_LOAD.ensures (too_long _ _ _ (sym c.in_ok-test_closed.ensures) (sym c.is_held.ensures ∙ c.if-is_held.false) c.if-text-gt-LONGEST_LOAD.true)

-- the place of a fault is at most 132
pub refused_at-requires : goal.refused_at-requires
refused_at-requires c =
    let most = place-fits _ _ (sym c.check.ensures ∙ c.in-Err.is) in
    omega arith

pub returns-in-Err : goal.returns-in-Err
returns-in-Err c =
    rw c.refused_at.ensures
    (fault-told _ _ _ (sym c.in_ok-test_closed.ensures) (sym c.is_held.ensures ∙ c.if-is_held.false) c.if-text-gt-LONGEST_LOAD.false _ (sym c.check.ensures ∙ c.in-Err.is))

pub invariant_of-has_room : goal.invariant_of-has_room
invariant_of-has_room c = record { tested = closed-sound _ (sym c.in_ok-test_closed.ensures) }

pub returns-then-not-has_room : goal.returns-then-not-has_room
returns-then-not-has_room c =
    let t = sym c.check.ensures ∙ c.in-Ok.is in
    let r = c.has_room.ensures _ (text-counted _ _ _ t) in
    rw c.into-then-not-has_room.ensures (no_room _ _ _ (sym c.in_ok-test_closed.ensures) (sym c.is_held.ensures ∙ c.if-is_held.false) c.if-text-gt-LONGEST_LOAD.false _ t _ r c.if-not-has_room.true)

-- an undamaged pool has as many words as the array
pub unreachable-requires : goal.unreachable-requires
unreachable-requires c =
    let z = (sound-of _ (closed-sound _ (sym c.in_ok-test_closed.ensures))).sizes.words in
    (rw c.in_default.is at c.as_mut_array.ensures.cases) z

pub add-requires : goal.add-requires
add-requires c =
    let t = sym c.check.ensures ∙ c.in-Ok.is in
    let r = c.has_room.ensures _ (text-counted _ _ _ t) in
    let s = (rw c.in-Some.is at c.as_mut_array.ensures.cases).same in
    rw s (accepts _ _ _ (sym c.in_ok-test_closed.ensures) (sym c.is_held.ensures ∙ c.if-is_held.false) c.if-text-gt-LONGEST_LOAD.false _ t _ r c.if-not-has_room.false)

pub returns : goal.returns
returns c =
    let t = sym c.check.ensures ∙ c.in-Ok.is in
    let r = c.has_room.ensures _ (text-counted _ _ _ t) in
    let s = (rw c.in-Some.is at c.as_mut_array.ensures.cases).same in
    done _ _ _ (sym c.in_ok-test_closed.ensures) (sym c.is_held.ensures ∙ c.if-is_held.false) c.if-text-gt-LONGEST_LOAD.false _ t _ r c.if-not-has_room.false _ (rw s at c.add.ensures)
