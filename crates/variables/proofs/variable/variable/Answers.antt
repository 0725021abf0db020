-- `variable` meets its contract: a name that is not legal is in no statement, and a count of 0 tells that none has it.
-- Assumes nothing.
use mathlib.Core.Path.{◌≡◌, sym, ◌∙◌}
use mathlib.Core.Bool.{true}
use mathlib.Core.List.{List}
use Prim.Native.Nat.{ℕ}
use native.Mathlib.Omega.{arith}
use borrow.Author.Rules.{rules}
use lib.ListN.{length}
use Rattle.std.specs.Prelude.{Err}
use Rattle.layout.specs.Memory.{decode}
use Rattle.layout.specs.Damage.{sound}
use Rattle.layout.proofs.Legal.{Legal}
use Rattle.layout.proofs.Sound.{sound-of}
use Rattle.layout.proofs.Holds.{decode-legal}
use Rattle.variables.specs.Variables.{variable, present}
use Rattle.variables.specs.declared.variable.FindError.TheVariants.{Absent}
use Rattle.variables.proofs.Presence.{some-present, empty-absent, illegal-absent}
use Rattle.variables.proofs.Finding.{finds-none, finds-mixed, finds-many, finds-values}
use Rattle.variables.proofs.variable.variable.Goals as goal

lawful : (m : List ℕ) → sound m ≡ true → Legal (decode m)
lawful m e = decode-legal m (sound-of m e)

pub returns-in_err-name : goal.returns-in_err-name
returns-in_err-name c =
    let r : c.from_residual.result ≡ Err Absent = search rules in
    let n = rw c.in_err-name.ensures.ok_part at c.of.ensures in
    rw r (finds-none _ _ _ (illegal-absent c.args.name.now _ (lawful c.args.pool.words.now c.args.pool.tested) n))

pub returns-then-count-eq0 : goal.returns-then-count-eq0
returns-then-count-eq0 c =
    let n = rw c.in_ok-name.ensures.ok_part at c.of.ensures in
    rw (sym n) (finds-none _ _ _ (empty-absent c.in_ok-name.name.bytes.now _ (lawful c.args.pool.words.now c.args.pool.tested) (sym c.walk-start.ensures.size ∙ c.if-count-eq0.true)))

-- some values were counted: the name is there
there : (name m : List ℕ) (count : ℕ) → sound m ≡ true → count ≡ length (variable name (decode m)) → (count ≡ 0 → ⊥) → present name (decode m) ≡ true
there name m count S e n = some-present name (decode m) (lawful m S) (omega (arith, n))

pub returns-then-start-gt0 : goal.returns-then-start-gt0
returns-then-start-gt0 c =
    let n = rw c.in_ok-name.ensures.ok_part at c.of.ensures in
    let z = c.walk-start.ensures.size in
    rw (sym n) (finds-mixed _ _ _ (there c.in_ok-name.name.bytes.now c.args.pool.words.now _ c.args.pool.tested z c.if-count-eq0.false) _ _ z c.walk-start.ensures.kinds
    (omega (arith, c.if-start-gt0.true)))

pub returns-then-out-count : goal.returns-then-out-count
returns-then-out-count c =
    let n = rw c.in_ok-name.ensures.ok_part at c.of.ensures in
    let z = c.walk-start.ensures.size in
    rw (sym n) (finds-many _ _ _ (there c.in_ok-name.name.bytes.now c.args.pool.words.now _ c.args.pool.tested z c.if-count-eq0.false) _ _ z c.walk-start.ensures.kinds
    (omega (arith, c.if-start-gt0.false)) c.if-out-count.true)

pub gather-requires : goal.gather-requires
gather-requires c =
    record {
      begins = c.walk-start.ensures;
      numbers_with_room = (omega (arith, c.if-start-gt0.false), c.if-out-count.false);
    }

pub returns : goal.returns
returns c =
    let n = rw c.in_ok-name.ensures.ok_part at c.of.ensures in
    let z = c.walk-start.ensures.size in
    rw (sym n) (finds-values _ _ _ (there c.in_ok-name.name.bytes.now c.args.pool.words.now _ c.args.pool.tested z c.if-count-eq0.false) _ _ z c.walk-start.ensures.kinds
    (omega (arith, c.if-start-gt0.false)) c.if-out-count.false _ c.gather.ensures)
