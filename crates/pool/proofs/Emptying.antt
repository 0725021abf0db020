-- Putting no texts writes the front alone; the answers of make empty and of clear, and what make empty leaves. Assumes nothing.
use mathlib.Core.Path.{◌≡◌, sym, ap, ◌∙◌}
use mathlib.Core.Bool.{true, false}
use mathlib.Core.List.{List, [], ◌∷◌}
use Prim.Native.Nat.{ℕ}
use borrow.Author.Tests.{eq-eqb, ne_eqb, eqb-true}
use lib.ListN.{length}
use Rattle.std.specs.Prelude.{Ok, Err}
use Rattle.refusal.specs.declared.Refusal.{Refusal}
use Rattle.refusal.specs.declared.Refusal.TheVariants.{DamagedPool}
use Rattle.words.specs.Over.{over}
use Rattle.words.proofs.Each.{Words}
use Rattle.words.proofs.Over.{over-nil}
use Rattle.layout.specs.State.{program, flat}
use Rattle.layout.specs.Limits.{WORDS, TEXTS_AT, HEADS_AT, NAMES_AT, VALUES_AT}
use Rattle.layout.specs.Memory.{opens, decode, NONE_OPEN, put}
use Rattle.layout.specs.Damage.{sized, sound}
use Rattle.layout.proofs.Legal.{fits-none, legal-none}
use Rattle.layout.proofs.Holds.{decode-put, put-closed, put-sound}
use Rattle.pool.specs.Ready.{with_none_open}
use Rattle.pool.specs.Replies.{refusing}
use Rattle.pool.specs.Empty.{empty_reply, clear_reply, emptied, Empties, Clears}
use Rattle.pool.proofs.Inking.{ink-none}
use Rattle.pool.proofs.Tested.{closed-sound, closed-shut, closed-refused}

-- the words in front where nothing is held
abbrev NONE : List ℕ
NONE = 0 ∷ 0 ∷ 0 ∷ 0 ∷ NONE_OPEN ∷ []

pub put-none : (m : List ℕ) → Words m → put [] m ≡ over 0 NONE m
unfolding put program flat
put-none m w = ap (over 0 NONE) (over-nil VALUES_AT _ ∙ over-nil NAMES_AT _ ∙ over-nil HEADS_AT _ ∙ over-nil TEXTS_AT _ ∙ ink-none 0 m w)

-- ---- the answers of each call

module _ (m : List ℕ) where
  pub empty-refused : (length m ≡ WORDS → ⊥) → Empties m (refusing DamagedPool) m
  unfolding empty_reply
  empty-refused n = let e : sized m ≡ false = ne_eqb (length m) WORDS n in record { reply = rw e; memory = rw e }

  pub empty-done : (after : List ℕ) → length m ≡ WORDS → after ≡ put [] m → Empties m (Ok tt) after
  unfolding empty_reply
  empty-done after n a = let e : sized m ≡ true = eq-eqb (length m) WORDS n in record { reply = rw e; memory = rw e a }

  pub clear-refused : (q : Refusal) → with_none_open m ≡ Err q → Clears m (refusing q) m
  unfolding clear_reply
  clear-refused q e = let r : clear_reply m ≡ refusing q = closed-refused m q (Ok tt) e in record { reply = sym r; memory = rw r }

  pub clear-done : (after : List ℕ) → with_none_open m ≡ Ok tt → after ≡ put [] m → Clears m (Ok tt) after
  unfolding clear_reply
  clear-done after e a =
      record { reply = rw (closed-sound m e, closed-shut m e); memory = rw (closed-sound m e, closed-shut m e) a }

  -- ---- what make empty leaves

  pub empty-sound : sized m ≡ true → sound (emptied (empty_reply m) m) ≡ true
  unfolding empty_reply
  empty-sound e = rw e (put-sound [] m fits-none (eqb-true (length m) WORDS e) legal-none)

  pub empty-decode : sized m ≡ true → decode (emptied (empty_reply m) m) ≡ []
  unfolding empty_reply
  empty-decode e = rw e (decode-put [] m fits-none (eqb-true (length m) WORDS e) legal-none)

  pub empty-shut : sized m ≡ true → opens (emptied (empty_reply m) m) ≡ false
  unfolding empty_reply
  empty-shut e = rw e (put-closed [] m fits-none (eqb-true (length m) WORDS e))
