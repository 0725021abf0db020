-- A load keeps an undamaged pool undamaged, and what is held after it is what the answer says. Assumes nothing.
use Prim.Native.Nat.{ℕ, ◌≤◌}
use mathlib.Core.Path.{◌≡◌, refl, sym, ap, subst, ◌∙◌}
use mathlib.Core.Bool.{Bool, true, false}
use mathlib.Core.List.{List, [], ◌∷◌}
use borrow.Author.Tests.{eqb-false, ltb-false}
use lib.Dec.{eqb, ltb}
use lib.ListN.{length}
use Rattle.std.specs.Prelude.{if◌then◌else◌}
use Rattle.refusal.specs.declared.Refusal.TheVariants.{LabelHeld, TextTooLong, TextOpen}
use Rattle.statement.specs.Statements.{Event}
use Rattle.text.specs.Text.{Read, fine, refused, read_text}
use Rattle.plain.proofs.Each.{Each}
use Rattle.plain.proofs.Tests.{true-false}
use Rattle.layout.specs.State.{Pool}
use Rattle.layout.specs.Limits.{room, LONGEST_LOAD}
use Rattle.layout.specs.Memory.{decode, opens, put}
use Rattle.layout.specs.Damage.{sound}
use Rattle.layout.proofs.Holds.{decode-legal, decode-put, put-sound}
use Rattle.layout.proofs.Legal.{Fair, Legal, fits-of, legal-add}
use Rattle.layout.proofs.Sound.{sound-of}
use Rattle.pool.specs.Replies.{Reply, done, refusing}
use Rattle.pool.specs.Held.{held}
use Rattle.loading.specs.Load.{text_of, with, admitted, load_answer, load_reply, load_memory}
use Rattle.loading.proofs.Adding.{body-read}
use Rattle.loading.proofs.Admitted.{text-fair}
use Rattle.loading.proofs.Loading.{label-asked, length-asked, text-asked}

-- ---- a label that is not held

pub absent : (label : ℕ) (s : Pool) → held label s ≡ false → Each (λ x. x.label ≡ label → ⊥) s
unfolding held
absent label [] e = tt
absent label (t ∷ s) e = by (eqb t.label label) refl e (absent label s)
  where
    by : (b : Bool) → eqb t.label label ≡ b → (if b then true else held label s) ≡ false → (held label s ≡ false → Each (λ x. x.label ≡ label → ⊥) s)
        → (t.label ≡ label → ⊥) × Each (λ x. x.label ≡ label → ⊥) s
    by true q f g = true-false f
    by false q f g = (eqb-false t.label label q, g f)

-- ---- what an accepted text is

pub record Accepted (label : ℕ) (bytes : List ℕ) (s : Pool) : Type 0 where
  pub free : held label s ≡ false
  pub short : length bytes ≤ LONGEST_LOAD
  pub events : List Event
  pub reads : read_text bytes ≡ fine events
  pub fits : room (with s (text_of label bytes)) ≡ true

pub done-accepted : (label : ℕ) (bytes : List ℕ) (s : Pool) → done (load_answer label bytes s) ≡ true → Accepted label bytes s
done-accepted label bytes s e = by (held label s) (ltb LONGEST_LOAD (length bytes)) (read_text bytes) (room (with s (text_of label bytes))) refl refl refl refl
  where
    -- a load that is answered otherwise is not accepted
    otherwise : (r : Reply) → load_answer label bytes s ≡ r → done r ≡ false → Accepted label bytes s
    otherwise r a f = true-false (sym e ∙ ap done a ∙ f)

    by : (h l : Bool) (x : Read) (r : Bool) → held label s ≡ h → ltb LONGEST_LOAD (length bytes) ≡ l → read_text bytes ≡ x → room (with s (text_of label bytes)) ≡ r → Accepted label bytes s
    by true l x r a b c d = otherwise (refusing LabelHeld) (label-asked label bytes s a) refl
    by false true x r a b c d = otherwise (refusing TextTooLong) (length-asked label bytes s a b) refl
    by false false (fine es) true a b c d = record { free = a; short = ltb-false LONGEST_LOAD (length bytes) b; events = es; reads = c; fits = d }
    by false false (fine es) false a b c d = otherwise (admitted (fine es) false) (text-asked label bytes s a b ∙ (λ i. admitted (c i) (d i))) refl
    by false false (refused q j k) r a b c d = otherwise (admitted (refused q j k) r) (text-asked label bytes s a b ∙ (λ i. admitted (c i) (d i))) refl

-- ---- what is held afterwards

module _ (label : ℕ) (bytes : List ℕ) (m : List ℕ) (e : sound m ≡ true) where
  -- the state with an accepted text more is legal
  legal-with : Accepted label bytes (decode m) → Legal (with (decode m) (text_of label bytes))
  unfolding text_of
  legal-with a =
      let f : Each Fair (text_of label bytes).body = subst (Each Fair) (sym (body-read label bytes a.events a.reads)) (text-fair bytes a.events a.reads) in
      legal-add (decode m) (text_of label bytes) (decode-legal m (sound-of m e)) (absent label (decode m) a.free) f

  -- what a call leaves, by whether it is accepted
  record Keeps (b : Bool) : Type 0 where
    undamaged : sound (if b then put (with (decode m) (text_of label bytes)) m else m) ≡ true
    state : decode (if b then put (with (decode m) (text_of label bytes)) m else m) ≡ (if b then with (decode m) (text_of label bytes) else decode m)

  keeps : (b : Bool) → done (load_answer label bytes (decode m)) ≡ b → Keeps b
  keeps true d =
      let a = done-accepted label bytes (decode m) d in
      let s = with (decode m) (text_of label bytes) in
      let f = fits-of s a.fits in
      let w = (sound-of m e).sizes.words in
      record { undamaged = put-sound s m f w (legal-with a); state = decode-put s m f w (legal-with a) }
  keeps false d = record { undamaged = e; state = refl }

  pub load-sound : sound (load_memory label bytes m) ≡ true
  unfolding load_memory load_reply
  load-sound = rw e (by (opens m))
    where
      by : (o : Bool) → sound (if done (if o then refusing TextOpen else load_answer label bytes (decode m)) then put (with (decode m) (text_of label bytes)) m else m) ≡ true
      by true = e
      by false = (keeps (done (load_answer label bytes (decode m))) refl).undamaged

  pub load-decode : decode (load_memory label bytes m) ≡ (if done (load_reply label bytes m) then with (decode m) (text_of label bytes) else decode m)
  unfolding load_memory load_reply
  load-decode = rw e (by (opens m))
    where
      by : (o : Bool) → let r = (if o then refusing TextOpen else load_answer label bytes (decode m)) in
          decode (if done r then put (with (decode m) (text_of label bytes)) m else m) ≡ (if done r then with (decode m) (text_of label bytes) else decode m)
      by true = refl
      by false = (keeps (done (load_answer label bytes (decode m))) refl).state
