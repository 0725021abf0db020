-- The state that a memory is in, and what it holds after texts were put into it: a state of proper texts that have room. Assumes nothing.
use Prim.Native.Nat.{ℕ}
use mathlib.Core.Path.{◌≡◌, refl, sym, ap}
use mathlib.Core.Bool.{Bool, true, false, true≢false}
use mathlib.Core.List.{List, []}
use native.Mathlib.Omega.{arith}
use lib.ListN.{length}
use Rattle.std.specs.Prelude.{Ok}
use Rattle.statement.specs.Statements.{statements}
use Rattle.text.specs.Text.{Read, fine, refused, read_text, added}
use Rattle.plain.proofs.Each.{Each}
use Rattle.layout.specs.State.{Pool, program, flat}
use Rattle.layout.specs.Limits.{WORDS, room}
use Rattle.layout.specs.Memory.{decode, put, opens, open_label}
use Rattle.layout.specs.Damage.{sound}
use Rattle.layout.proofs.Sound.{sound-of}
use Rattle.layout.proofs.Legal.{Fair, fits-of, of-fits}
use Rattle.layout.proofs.Holds.{decode-fits, decode-legal, decode-put, put-sound, put-closed}
use Rattle.pool.specs.Replies.{done}
use Rattle.loading.specs.Load.{text_of, with, admitted, load_answer, load_reply, load_memory}
use Rattle.pool.specs.Remove.{without}
use Rattle.feeding.specs.Parts.{Open}
use Rattle.opening.specs.Storing.{Progress}
use Rattle.intake.specs.Opened.{state_in}
use Rattle.promises.specs.Calls as C
use Rattle.promises.specs.Calls.{leaves}
use Rattle.promises.proofs.Accepted.{taken-done}
use Rattle.promises.proofs.Room.{room-without}
use Rattle.promises.proofs.Proper.{Proper, proper-legal, legal-proper, proper-none, proper-with, proper-without}
use Rattle.loading.proofs.Admitted.{text-fair}
use Rattle.promises.proofs.Said.{shut, ajar, State, closed, openness, state_of, sound-size}

-- the memory is undamaged and in this state
pub record Is (m : List ℕ) (s : State) : Type 0 where
  pub undamaged : sound m ≡ true
  pub state : state_of m ≡ s

-- ---- what a memory can hold

room-none : room [] ≡ true
unfolding room program flat
room-none = refl

pub state-closed : (m : List ℕ) (s : Pool) → decode m ≡ s → opens m ≡ false → state_of m ≡ closed s
state-closed m s e o = rw (e, o)

pub shut-of : (m : List ℕ) (s : Pool) → state_of m ≡ closed s → opens m ≡ false
shut-of m s e = by (opens m) (ap (λ (x : State). x.opened) e)
  where
    by : (b : Bool) → openness b (open_label m) (state_in m) ≡ shut → b ≡ false
    by true f = let z : ◌≡◌ {A = ℕ} 0 1 = cc in absurd (omega arith)
    by false f = refl

pub state-open : (m : List ℕ) (s : Pool) (label : ℕ) (o : Open Progress) → decode m ≡ s → opens m ≡ true → open_label m ≡ label → state_in m ≡ o
    → state_of m ≡ record { texts = s; opened = ajar label o }
state-open m s label o e p l q = rw (p, e, l, q)

put_is : (s : Pool) (m : List ℕ) → length m ≡ WORDS → room s ≡ true → Proper s → Is (put s m) (closed s)
put_is s m z r p =
    let f = fits-of s r in
    let l = proper-legal s p in
    record { undamaged = put-sound s m f z l; state = state-closed (put s m) s (decode-put s m f z l) (put-closed s m f z) }

pub room-decoded : (m : List ℕ) → sound m ≡ true → room (decode m) ≡ true
room-decoded m e = of-fits (decode m) (decode-fits m (sound-of m e))

pub proper-decoded : (m : List ℕ) → sound m ≡ true → Proper (decode m)
proper-decoded m e = legal-proper (decode m) (decode-legal m (sound-of m e))

-- the statements that an accepted load adds can be held
added-fair : (bytes : List ℕ) → done (admitted (read_text bytes) true) ≡ true → Each Fair (statements (added (read_text bytes)))
added-fair bytes h = by (read_text bytes) refl h
  where
    by : (r : Read) → read_text bytes ≡ r → done (admitted r true) ≡ true → Each Fair (statements (added r))
    by (fine es) e h = text-fair bytes es e
    by (refused q line place) e h = absurd (true≢false (sym h))

pub emptied-is : (m : List ℕ) → length m ≡ WORDS → Is (put [] m) (closed [])
emptied-is m z = put_is [] m z room-none proper-none

module _ (m : List ℕ) (e : sound m ≡ true) where
  pub unchanged : Is m (state_of m)
  unchanged = record { undamaged = e; state = refl }

  pub still-shut : opens m ≡ false → Is m (closed (decode m))
  still-shut o = record { undamaged = e; state = state-closed m (decode m) refl o }

  pub load_is : (label : ℕ) (bytes : List ℕ) → done (load_answer label bytes (decode m)) ≡ true
      → Is (put (with (decode m) (text_of label bytes)) m) (closed (with (decode m) (text_of label bytes)))
  unfolding text_of
  load_is label bytes h =
      let t = taken-done label bytes (decode m) h in
      let p = proper-with (decode m) (text_of label bytes) (proper-decoded m e) t.free (added-fair bytes t.reads) in
      put_is (with (decode m) (text_of label bytes)) m (sound-size m e) t.fits p

  pub loaded-is : (label : ℕ) (bytes : List ℕ) → opens m ≡ false → load_answer label bytes (decode m) ≡ Ok tt
      → Is (leaves (C.load label bytes) m) (closed (with (decode m) (text_of label bytes)))
  unfolding leaves load_memory load_reply
  loaded-is label bytes o d = rw (e, o, d) (load_is label bytes (ap done d))

  pub remove-is : (label : ℕ) → Is (put (without label (decode m)) m) (closed (without label (decode m)))
  remove-is label =
      put_is (without label (decode m)) m (sound-size m e) (room-without label (decode m) (room-decoded m e))
      (proper-without label (decode m) (proper-decoded m e))
