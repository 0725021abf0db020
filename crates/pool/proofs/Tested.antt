-- The tests before a call that changes the pool: what each answer of theirs says of the memory, and what a call with the same tests at its head
-- answers then. Assumes nothing.
use mathlib.Core.Path.{◌≡◌, refl, ap, ◌∙◌}
use mathlib.Core.Bool.{Bool, true, false}
use mathlib.Core.List.{List}
use Prim.Native.Nat.{ℕ}
use Rattle.std.specs.Prelude.{Result, Ok, Err, if◌then◌else◌}
use Rattle.std.specs.Result.{IsErrAnd}
use Rattle.std.proofs.lemmas.Result.{err_from_is_err_and}
use Rattle.refusal.specs.declared.Refusal.{Refusal}
use Rattle.refusal.specs.declared.Refusal.TheVariants.{NotHeld, DamagedPool, TextOpen}
use Rattle.layout.specs.Memory.{opens}
use Rattle.layout.specs.Damage.{sound}
use Rattle.pool.specs.Ready.{with_none_open, with_one_open}
use Rattle.pool.specs.Refusing.{plain}
use Rattle.pool.specs.Replies.{Reply, refusing}
use Rattle.pool.specs.declared.reply.Refused.{Refused}

abbrev by_tests : (s o : Bool) → (shut opened : Result (Unit {0}) Refusal) → Result (Unit {0}) Refusal
by_tests s o shut opened = if s then (if o then opened else shut) else Err DamagedPool

-- the tests at the head of a reply
abbrev by_replies : (s o : Bool) → (shut opened : Reply) → Reply
by_replies s o shut opened = if s then (if o then opened else shut) else refusing DamagedPool

-- a refusal that a `?` passes on has no line and no column
pub passed_on : {q : Refusal} (r : Reply) → IsErrAnd r (λ (e : Refused). e ≡ plain q) → r ≡ refusing q
passed_on r h = let p = err_from_is_err_and r h in p.1 ∙ ap Err p.2

-- ---- for a call that wants no text open

pub closed-sound : (m : List ℕ) → with_none_open m ≡ Ok tt → sound m ≡ true
unfolding with_none_open
closed-sound m e = by (sound m) (opens m) e
  where
    by : (s o : Bool) → by_tests s o (Ok tt) (Err TextOpen) ≡ Ok tt → s ≡ true
    by true o e = refl
    by false o e = cc

pub closed-shut : (m : List ℕ) → with_none_open m ≡ Ok tt → opens m ≡ false
unfolding with_none_open
closed-shut m e = by (sound m) (opens m) e
  where
    by : (s o : Bool) → by_tests s o (Ok tt) (Err TextOpen) ≡ Ok tt → o ≡ false
    by true true e = cc
    by true false e = refl
    by false o e = cc

pub closed-refused : (m : List ℕ) (q : Refusal) (r : Reply) → with_none_open m ≡ Err q
    → (if sound m then (if opens m then refusing TextOpen else r) else refusing DamagedPool) ≡ refusing q
unfolding with_none_open
closed-refused m q r e = by (sound m) (opens m) e
  where
    by : (s o : Bool) → by_tests s o (Ok tt) (Err TextOpen) ≡ Err q → by_replies s o r (refusing TextOpen) ≡ refusing q
    by true true e = cc
    by true false e = cc
    by false o e = cc

-- ---- for a call on an open text

pub open-sound : (m : List ℕ) → with_one_open m ≡ Ok tt → sound m ≡ true
unfolding with_one_open
open-sound m e = by (sound m) (opens m) e
  where
    by : (s o : Bool) → by_tests s o (Err NotHeld) (Ok tt) ≡ Ok tt → s ≡ true
    by true o e = refl
    by false o e = cc

pub open-opens : (m : List ℕ) → with_one_open m ≡ Ok tt → opens m ≡ true
unfolding with_one_open
open-opens m e = by (sound m) (opens m) e
  where
    by : (s o : Bool) → by_tests s o (Err NotHeld) (Ok tt) ≡ Ok tt → o ≡ true
    by true true e = refl
    by true false e = cc
    by false o e = cc

pub open-refused : (m : List ℕ) (q : Refusal) (r : Reply) → with_one_open m ≡ Err q
    → (if sound m then (if opens m then r else refusing NotHeld) else refusing DamagedPool) ≡ refusing q
unfolding with_one_open
open-refused m q r e = by (sound m) (opens m) e
  where
    by : (s o : Bool) → by_tests s o (Err NotHeld) (Ok tt) ≡ Err q → by_replies s o (refusing NotHeld) r ≡ refusing q
    by true true e = cc
    by true false e = cc
    by false o e = cc
