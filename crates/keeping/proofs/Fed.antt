-- A part that is fed is read back as what its bytes make of the open text: each complete line keeps the entry, and the text is written over the front
-- at the end. Assumes nothing.
use Prim.Native.Nat.{ℕ}
use mathlib.Core.Path.{◌≡◌, refl, sym, ap, subst, ◌∙◌}
use mathlib.Core.Bool.{true, false}
use mathlib.Core.List.{List}
use Rattle.octets.proofs.Bytes.{Bytes}
use Rattle.layout.specs.State.{Pool}
use Rattle.layout.specs.Memory.{decode, opens, open_label}
use Rattle.layout.specs.Damage.{sound}
use Rattle.pool.specs.Held.{held}
use Rattle.feeding.specs.Parts.{Open, fed}
use Rattle.opening.specs.Storing.{complete}
use Rattle.entering.specs.Entries.{Entry, progress_of, complete_on}
use Rattle.intake.specs.Opened.{telling, open_in, state_in, stowed}
use Rattle.intake.specs.Calls.{are_bytes, feed_reply, feed_memory}
use Rattle.keeping.proofs.OfParts.{Beside}
use Rattle.keeping.proofs.Kept.{Kept, complete-tells, complete-kept}
use Rattle.keeping.proofs.Numbers.{Numbers, numbers-fed, bytes-fed}
use Rattle.keeping.proofs.Free.{none-held, label-free}
use Rattle.keeping.proofs.Telling.{kept-fed, told-fed}
use Rattle.keeping.proofs.ReadOpened.{open_kept, open-numbers, open-bytes}
use Rattle.keeping.proofs.ReadStowed.{stowed-label, stowed-opens, stowed-decode, stowed-sound, stowed-state}

-- any open text beside the pool s
module _ (s : Pool) (o : Open Entry) (k : Kept s o.progress) (n : Numbers o) (part : List ℕ) where
  pub part-kept : Kept s (fed complete_on o part).progress
  part-kept = kept-fed complete_on (Kept s) (λ e number line h i. complete-kept e i number line h) o part n.number k

  pub part-tells : telling progress_of (fed complete_on o part) ≡ fed (complete s) (telling progress_of o) part
  part-tells =
      told-fed complete_on (Kept s) (λ e number line h i. complete-kept e i number line h) (complete s) progress_of (λ e number line i. complete-tells e i number line)
      o part n.number k

module _ (part m : List ℕ) (e : sound m ≡ true) (o : opens m ≡ true) where
  pub feeds-as : feed_memory part m ≡ stowed (open_label m) (fed complete_on (open_in m) part)
  unfolding feed_memory feed_reply
  feeds-as = rw (e, o) refl

  abbrev pub after : Open Entry
  after = fed complete_on (open_in m) part

  pub after_kept : Kept (decode m) after.progress
  after_kept = part-kept (decode m) (open_in m) (open_kept m e o) (open-numbers m e o) part

  pub after-numbers : Numbers after
  after-numbers = numbers-fed complete_on (open_in m) part (open-numbers m e o)

  pub after-bytes : are_bytes part ≡ true → Bytes after.kept
  after-bytes f = bytes-fed complete_on (open_in m) part f (open-bytes m e o)

  pub fed-beside : Beside m (open_label m) (feed_memory part m)
  fed-beside =
      let l = open_label m in
      let k = after_kept in
      let x = after.progress.memory in
      let h : held l (decode x) ≡ false = ap (held l) k.same ∙ label-free m e o in
      subst (Beside m l) (sym feeds-as) (record {
        undamaged = stowed-sound l after k after-numbers.room after-numbers.bytes (none-held l x h);
        is_open = stowed-opens l after k;
        same = stowed-decode l after k;
        labelled = stowed-label l after k;
      })

  pub fed-state : are_bytes part ≡ true → state_in (feed_memory part m) ≡ fed (complete (decode m)) (state_in m) part
  fed-state f =
      ap state_in feeds-as ∙ stowed-state (open_label m) after after_kept after-numbers (after-bytes f)
      ∙ part-tells (decode m) (open_in m) (open_kept m e o) (open-numbers m e o) part
