-- A text is accepted exactly when it is admissible: the load's tests, in their order, are the record's fields. Assumes nothing.
use Prim.Native.Nat.{ℕ, ◌≤◌}
use mathlib.Core.Path.{◌≡◌, refl, sym, ◌∙◌}
use mathlib.Core.Bool.{Bool, true, false, true≢false}
use mathlib.Core.List.{List}
use mathlib.Core.Logic.{◌↔◌}
use borrow.Author.Tests.{ltb-false, le-ltb}
use lib.Dec.{ltb}
use lib.ListN.{length}
use Rattle.std.specs.Prelude.{if◌then◌else◌, Ok}
use Rattle.refusal.specs.declared.Refusal.TheVariants.{LabelHeld, TextTooLong, DamagedPool, TextOpen}
use Rattle.text.specs.Text.{Read, fine, refused, read_text}
use Rattle.layout.specs.State.{Pool}
use Rattle.layout.specs.Limits.{room, LONGEST_LOAD}
use Rattle.layout.specs.Memory.{decode, opens}
use Rattle.layout.specs.Damage.{sound}
use Rattle.pool.specs.Replies.{Reply, done, refusing}
use Rattle.pool.specs.Held.{held}
use Rattle.loading.specs.Load.{text_of, with, admitted, load_answer, load_reply}
use Rattle.promises.specs.Calls.{load, asked, library, accepted}
use Rattle.promises.specs.Demands.{Admissible}
use Rattle.promises.proofs.Refusals.{accepted-done}

-- ---- on a state

-- what an accepted text of at most so many bytes says of the state and of itself
pub record Taken (longest label : ℕ) (bytes : List ℕ) (s : Pool) : Type 0 where
  pub free : held label s ≡ false
  pub short : length bytes ≤ longest
  pub fits : room (with s (text_of label bytes)) ≡ true
  pub reads : done (admitted (read_text bytes) true) ≡ true

-- the answer from the test of the length on
abbrev pub measured : (longest label : ℕ) (bytes : List ℕ) → Pool → Reply
measured longest label bytes s =
    if ltb longest (length bytes) then refusing TextTooLong else admitted (read_text bytes) (room (with s (text_of label bytes)))

module _ (longest label : ℕ) (bytes : List ℕ) (s : Pool) where
  by-room : (t : Read) (b : Bool) → done (admitted t b) ≡ true → (b ≡ true) × (done (admitted t true) ≡ true)
  by-room (fine es) true e = (refl, refl)
  by-room (fine es) false e = absurd (true≢false (sym e))
  by-room (refused q line place) b e = absurd (true≢false (sym e))

  pub taken-measured : held label s ≡ false → done (measured longest label bytes s) ≡ true → Taken longest label bytes s
  taken-measured f h = by (ltb longest (length bytes)) refl h
    where
      by : (b : Bool) → ltb longest (length bytes) ≡ b
          → done (if b then refusing TextTooLong else admitted (read_text bytes) (room (with s (text_of label bytes)))) ≡ true → Taken longest label bytes s
      by true e h = absurd (true≢false (sym h))
      by false e h =
          let p = by-room (read_text bytes) (room (with s (text_of label bytes))) h in
          record { free = f; short = ltb-false longest (length bytes) e; fits = p.0; reads = p.1 }

  pub measured-taken : Taken longest label bytes s → measured longest label bytes s ≡ Ok tt
  measured-taken t = rw (le-ltb longest (length bytes) t.short, t.fits) (done-only (read_text bytes) t.reads)
    where
      done-only : (r : Read) → done (admitted r true) ≡ true → admitted r true ≡ Ok tt
      done-only (fine es) e = refl
      done-only (refused q line place) e = absurd (true≢false (sym e))

module _ (label : ℕ) (bytes : List ℕ) (s : Pool) where
  pub taken-done : done (load_answer label bytes s) ≡ true → Taken LONGEST_LOAD label bytes s
  unfolding load_answer
  taken-done h = by (held label s) refl h
    where
      by : (b : Bool) → held label s ≡ b → done (if b then refusing LabelHeld else measured LONGEST_LOAD label bytes s) ≡ true
          → Taken LONGEST_LOAD label bytes s
      by true f h = absurd (true≢false (sym h))
      by false f h = taken-measured LONGEST_LOAD label bytes s f h

  pub done-taken : Taken LONGEST_LOAD label bytes s → load_answer label bytes s ≡ Ok tt
  unfolding load_answer
  done-taken t = rw t.free (measured-taken LONGEST_LOAD label bytes s t)

-- ---- on a memory

module _ (longest label : ℕ) (bytes m : List ℕ) where
  pub taken-admissible : sound m ≡ true → opens m ≡ false → Taken longest label bytes (decode m) → Admissible longest label bytes m
  taken-admissible u o t = by (read_text bytes) refl t.reads
    where
      by : (r : Read) → read_text bytes ≡ r → done (admitted r true) ≡ true → Admissible longest label bytes m
      by (fine es) q e =
          record { undamaged = u; none_open = o; free = t.free; short = t.short; events = es; admitted = q; roomy = t.fits }
      by (refused fault line place) q e = absurd (true≢false (sym e))

  pub admissible-taken : Admissible longest label bytes m → Taken longest label bytes (decode m)
  admissible-taken a = record { free = a.free; short = a.short; fits = a.roomy; reads = rw a.admitted }

module _ (label : ℕ) (bytes m : List ℕ) where
  by-open : (b : Bool) → opens m ≡ b → sound m ≡ true → done (if b then refusing TextOpen else load_answer label bytes (decode m)) ≡ true
      → Admissible LONGEST_LOAD label bytes m
  by-open true o u h = absurd (true≢false (sym h))
  by-open false o u h = taken-admissible LONGEST_LOAD label bytes m u o (taken-done label bytes (decode m) h)

  by-damage : (b : Bool) → sound m ≡ b
      → done (if b then (if opens m then refusing TextOpen else load_answer label bytes (decode m)) else refusing DamagedPool) ≡ true
      → Admissible LONGEST_LOAD label bytes m
  by-damage true u h = by-open (opens m) refl u h
  by-damage false u h = absurd (true≢false (sym h))

  admissible-accepted : Admissible LONGEST_LOAD label bytes m → load_reply label bytes m ≡ Ok tt
  unfolding load_reply
  admissible-accepted a = rw (a.undamaged, a.none_open) (done-taken label bytes (decode m) (admissible-taken LONGEST_LOAD label bytes m a))

  pub accepted-exactly : (accepted (library.answer (load label bytes) m) ≡ true) ↔ Admissible LONGEST_LOAD label bytes m
  unfolding asked load_reply
  accepted-exactly = (
    λ h. by-damage (sound m) refl (sym (accepted-done (load_reply label bytes m)) ∙ h),
    λ a. rw (admissible-accepted a),
  )
