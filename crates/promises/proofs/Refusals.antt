-- A refusal changes nothing: every call writes only under its success, but that a closing which gets as far as the open text ends it, and that one
-- never answers 8 or 15. Assumes nothing.
use Prim.Native.Nat.{ℕ}
use mathlib.Core.Path.{◌≡◌, refl, ap}
use mathlib.Core.Bool.{Bool, true, false, ◌&&◌, true≢false}
use mathlib.Core.List.{List, []}
use lib.Dec.{eqb}
use lib.Ieee.{Float}
use lib.ListN.{length}
use Rattle.std.specs.Prelude.{if◌then◌else◌, Ok, Err, Result}
use Rattle.refusal.specs.Numbers.{SUCCESS, number_of}
use Rattle.refusal.specs.declared.Refusal.{Refusal}
use Rattle.refusal.specs.declared.Refusal.TheVariants as Q
use Rattle.layout.specs.Memory.{decode, put, opens, open_label}
use Rattle.layout.specs.Damage.{sound}
use Rattle.pool.specs.Replies.{Reply, reply_number, fetched_number, done, refusing}
use Rattle.pool.specs.Empty.{empty_reply, clear_reply}
use Rattle.loading.specs.Load.{text_of, with, load_reply, load_memory}
use Rattle.pool.specs.Remove.{without, remove_reply, remove_memory}
use Rattle.variables.specs.declared.variable.FindError.{FindError}
use Rattle.variables.specs.Variables.{variable}
use Rattle.variables.specs.Found.{doubles, found_in, filled}
use Rattle.variables.specs.Spelled.{string_of, spelled_in}
use Rattle.pool.specs.Fetch.{fetched, fetch_reply, fetch_buffer}
use Rattle.pool.specs.FetchString.{string_reply, string_buffer}
use Rattle.variables.specs.declared.variable.FindError.TheVariants as W
use Rattle.opening.specs.Closing.{close_answer, closed_pool}
use Rattle.intake.specs.Opened.{state_in, stowed, beginning, shut}
use Rattle.intake.specs.Calls.{open_reply, open_memory, feed_reply, feed_memory, drop_memory, close_reply, close_memory}
use Rattle.promises.specs.Calls.{make_empty, load, open_load, feed_part, close_load, drop_load, remove, clear, ends_open, fetch, fetch_string, totals, orientation, radii, asked, leaves, library}
use Rattle.promises.specs.Demands.{RefusalChangesNothing}
use Rattle.promises.proofs.Told.{Ends, told}

-- no refusal has the number of success
pub refused-number : (q : Refusal) → eqb (number_of q) SUCCESS ≡ false
refused-number Q.LabelHeld = refl
refused-number Q.TextTooLong = refl
refused-number Q.LineTooLong = refl
refused-number Q.BadByte = refl
refused-number Q.Number = refl
refused-number Q.NoRoom = refl
refused-number Q.NotHeld = refl
refused-number Q.Epoch = refl
refused-number Q.UnknownBody = refl
refused-number Q.Incomplete = refl
refused-number Q.WrongCount = refl
refused-number Q.NoVariable = refl
refused-number Q.ShortBuffer = refl
refused-number Q.DamagedPool = refl
refused-number Q.MixedKind = refl
refused-number Q.BadName = refl
refused-number Q.NoOperator = refl
refused-number Q.BadValue = refl
refused-number Q.OpenList = refl
refused-number Q.RestOfLine = refl
refused-number Q.BadDegree = refl
refused-number Q.BadRadius = refl
refused-number Q.TextOpen = refl
refused-number Q.BadRing = refl
refused-number Q.BadPosition = refl

-- a call that changes the pool is accepted exactly when it is done
pub accepted-done : (r : Reply) → eqb (reply_number r) SUCCESS ≡ done r
accepted-done (Ok u) = refl
accepted-done (Err r) = refused-number r.refusal

-- memory that is written only where the call is done
unwritten : (r : Reply) (after before : List ℕ) → eqb (reply_number r) SUCCESS ≡ false → (if done r then after else before) ≡ before
unwritten (Ok u) after before e = absurd (true≢false e)
unwritten (Err r) after before e = refl

-- a buffer that is written only where the pool is undamaged and what is asked for is found, with room for it
untouched : {A : Type 0} (b : Bool) (r : Result ℕ FindError) (xs buffer : List A)
    → eqb (fetched_number (if b then fetched r else Err Q.DamagedPool)) SUCCESS ≡ false → (if b then filled r xs buffer else buffer) ≡ buffer
untouched true (Ok n) xs buffer e = absurd (true≢false e)
untouched true (Err W.TooMany) xs buffer e = refl
untouched true (Err W.Mixed) xs buffer e = refl
untouched true (Err W.Absent) xs buffer e = refl
untouched false r xs buffer e = refl

-- ---- a closing

-- refused, it writes the one word, where the pool is undamaged and a text is open
closing-writes : (b o : Bool) (r : Reply) (after before : List ℕ) → Ends r
    → let c = if b then (if o then r else refusing Q.NotHeld) else refusing Q.DamagedPool in
    eqb (reply_number c) SUCCESS ≡ false
    → (if b && o then (if done c then after else shut before) else before) ≡ (if ends_open close_load (reply_number c) then shut before else before)
closing-writes true true (Err r) after before w e = rw (w refl)
closing-writes true true (Ok u) after before w e = absurd (true≢false e)
closing-writes true false r after before w e = refl
closing-writes false o r after before w e = refl

pub refusal-changes-nothing : RefusalChangesNothing library
unfolding asked leaves load_memory open_memory feed_memory close_reply close_memory drop_memory remove_memory fetch_reply fetch_buffer string_reply string_buffer
refusal-changes-nothing make_empty m e = (unwritten (empty_reply m) (put [] m) m e, refl)
refusal-changes-nothing (load label bytes) m e = (unwritten (load_reply label bytes m) (put (with (decode m) (text_of label bytes)) m) m e, refl)
refusal-changes-nothing (open_load label) m e = (unwritten (open_reply label m) (stowed label (beginning m)) m e, refl)
refusal-changes-nothing (feed_part part) m e = (unwritten (feed_reply m) _ m e, refl)
refusal-changes-nothing close_load m e =
    let s = decode m in
    let o = state_in m in
    (closing-writes (sound m) (opens m) (close_answer s o) (put (closed_pool s (open_label m) o) m) m (told s o).ends e, refl)
refusal-changes-nothing drop_load m e = (unwritten (feed_reply m) (shut m) m e, refl)
refusal-changes-nothing (remove label) m e = (unwritten (remove_reply label m) (put (without label (decode m)) m) m e, refl)
refusal-changes-nothing clear m e = (unwritten (clear_reply m) (put [] m) m e, refl)
refusal-changes-nothing (fetch name buffer) m e = (
  refl,
  ap (λ (xs : List Float). record { values = xs; bytes = [] }) (untouched (sound m) (found_in name (length buffer) (decode m)) (doubles name (decode m)) buffer e),
)
refusal-changes-nothing (fetch_string name place buffer) m e =
    let s = decode m in (
      refl,
      ap (λ (bs : List ℕ). record { values = []; bytes = bs })
          (untouched (sound m) (spelled_in name place (length buffer) s) (string_of place (variable name s)) buffer e),
    )
refusal-changes-nothing totals m e = (refl, refl)
refusal-changes-nothing (orientation source code epoch) m e = (refl, refl)
refusal-changes-nothing (radii source code) m e = (refl, refl)
