-- Only a fault of a text has a line and a column, and its number is one that points: each call's reply by itself. Assumes nothing.
use Prim.Native.Nat.{ℕ}
use mathlib.Core.Path.{◌≡◌, refl, sym, ◌∙◌}
use mathlib.Core.Bool.{Bool, true, false, true≢false}
use mathlib.Core.List.{List}
use lib.Dec.{ltb}
use lib.ListN.{length}
use Rattle.std.specs.Prelude.{if◌then◌else◌, Ok}
use Rattle.refusal.specs.declared.Refusal.{Refusal}
use Rattle.refusal.specs.declared.Refusal.TheVariants as Q
use Rattle.text.specs.Text.{Read, fine, refused, read_text}
use Rattle.layout.specs.Limits.{room, LONGEST_LOAD}
use Rattle.layout.specs.Memory.{decode, opens}
use Rattle.layout.specs.Damage.{sized, sound}
use Rattle.pool.specs.Replies.{Reply, refusing}
use Rattle.pool.specs.Empty.{empty_reply, clear_reply}
use Rattle.pool.specs.Held.{held}
use Rattle.loading.specs.Load.{text_of, with, admitted, load_answer, load_reply}
use Rattle.pool.specs.Remove.{remove_reply}
use Rattle.intake.specs.Opened.{state_in}
use Rattle.intake.specs.Calls.{open_reply, feed_reply, close_reply}
use Rattle.promises.specs.Calls as C
use Rattle.promises.specs.Calls.{Call, asked, number, line, column}
use Rattle.promises.specs.Demands.{points}
use Rattle.promises.proofs.Told.{Lined, fault-number, told}

done-lined : Lined (Ok tt)
done-lined = record { others = λ e. (refl, refl) }

refusing-lined : (q : Refusal) → Lined (refusing q)
refusing-lined q = record { others = λ e. (refl, refl) }

admitted-lined : (t : Read) (b : Bool) → Lined (admitted t b)
admitted-lined (fine es) true = done-lined
admitted-lined (fine es) false = refusing-lined Q.NoRoom
admitted-lined (refused q n place) b = record { others = λ e. absurd (true≢false (sym (fault-number q) ∙ e)) }

either-lined : (b : Bool) {r r' : Reply} → Lined r → Lined r' → Lined (if b then r else r')
either-lined true p q = p
either-lined false p q = q

-- 15 where the pool is damaged, 22 where a text is open
sound-lined : (m : List ℕ) {r : Reply} → Lined r → Lined (if sound m then r else refusing Q.DamagedPool)
sound-lined m p = either-lined (sound m) p (refusing-lined Q.DamagedPool)

none-lined : (m : List ℕ) {r : Reply} → Lined r → Lined (if sound m then (if opens m then refusing Q.TextOpen else r) else refusing Q.DamagedPool)
none-lined m p = sound-lined m (either-lined (opens m) (refusing-lined Q.TextOpen) p)

load-lined : (label : ℕ) (bytes m : List ℕ) → Lined (load_reply label bytes m)
unfolding load_reply load_answer
load-lined label bytes m =
    let t = admitted-lined (read_text bytes) (room (with (decode m) (text_of label bytes))) in
    none-lined m
    (either-lined (held label (decode m)) (refusing-lined Q.LabelHeld) (either-lined (ltb LONGEST_LOAD (length bytes)) (refusing-lined Q.TextTooLong) t))

open-lined : (label : ℕ) (m : List ℕ) → Lined (open_reply label m)
unfolding open_reply
open-lined label m = none-lined m (either-lined (held label (decode m)) (refusing-lined Q.LabelHeld) done-lined)

feed-lined : (m : List ℕ) → Lined (feed_reply m)
unfolding feed_reply
feed-lined m = sound-lined m (either-lined (opens m) done-lined (refusing-lined Q.NotHeld))

close-lined : (m : List ℕ) → Lined (close_reply m)
unfolding close_reply
close-lined m = sound-lined m (either-lined (opens m) (told (decode m) (state_in m)).lined (refusing-lined Q.NotHeld))

empty-lined : (m : List ℕ) → Lined (empty_reply m)
unfolding empty_reply
empty-lined m = either-lined (sized m) done-lined (refusing-lined Q.DamagedPool)

clear-lined : (m : List ℕ) → Lined (clear_reply m)
unfolding clear_reply
clear-lined m = none-lined m done-lined

remove-lined : (label : ℕ) (m : List ℕ) → Lined (remove_reply label m)
unfolding remove_reply
remove-lined label m = none-lined m (either-lined (held label (decode m)) done-lined (refusing-lined Q.NotHeld))

pub others : (c : Call) (m : List ℕ) → points (number (asked c m)) ≡ false → (line (asked c m) ≡ 0) × (column (asked c m) ≡ 0)
unfolding asked
others C.make_empty m e = (empty-lined m).others e
others (C.load label bytes) m e = (load-lined label bytes m).others e
others (C.open_load label) m e = (open-lined label m).others e
others (C.feed_part part) m e = (feed-lined m).others e
others C.close_load m e = (close-lined m).others e
others C.drop_load m e = (feed-lined m).others e
others (C.remove label) m e = (remove-lined label m).others e
others C.clear m e = (clear-lined m).others e
others (C.fetch name buffer) m e = (refl, refl)
others (C.fetch_string name place buffer) m e = (refl, refl)
others C.totals m e = (refl, refl)
others (C.orientation source code epoch) m e = (refl, refl)
others (C.radii source code) m e = (refl, refl)
