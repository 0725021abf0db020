-- The answer of a load, question by question: 15, 22, 1, 2, the first faulty line, 7. Assumes nothing.
use Prim.Native.Nat.{ℕ, ◌≤◌, ◌<◌}
use native.Mathlib.Omega.{arith}
use mathlib.Core.Path.{◌≡◌, refl, sym, ap, ◌∙◌}
use mathlib.Core.Bool.{Bool, true, false}
use mathlib.Core.List.{List}
use borrow.Author.Tests.{lt-ltb, le-ltb}
use lib.Dec.{ltb}
use lib.ListN.{length}
use Rattle.std.specs.Prelude.{Ok, Err}
use Rattle.refusal.specs.declared.Refusal.{Refusal}
use Rattle.refusal.specs.declared.Refusal.TheVariants.{LabelHeld, TextTooLong, NoRoom}
use Rattle.value.specs.Faults.{faulty, refusal_of}
use Rattle.statement.specs.Statements.{Event, openings, givings, bytes_given}
use Rattle.text.specs.Columns.{column_of}
use Rattle.text.specs.Lengths.{LONGEST_LINE}
use Rattle.text.specs.Text.{Read, fine, refused, read_text, in_line, tallied}
use Rattle.text.specs.declared.Counts.{Counts}
use Rattle.text.specs.declared.TextFault.{TextFault}
use Rattle.text.proofs.Columns.{place-most}
use Rattle.layout.specs.State.{Pool}
use Rattle.layout.specs.Limits.{room, LONGEST_LOAD}
use Rattle.layout.specs.Memory.{decode, opens, put}
use Rattle.layout.specs.Damage.{sound}
use Rattle.pool.specs.Ready.{with_none_open}
use Rattle.pool.specs.Replies.{refusing, refusing_at}
use Rattle.pool.specs.Held.{held}
use Rattle.loading.specs.Load.{text_of, with, Counted, admitted, load_answer, load_reply, load_memory, Loads, Accepts}
use Rattle.pool.proofs.Tested.{closed-sound, closed-shut, closed-refused}
use Rattle.loading.proofs.Adding.{body-counted}

-- ---- what the first pass tells of the text

-- it is admitted, with so many statements, values and bytes in strings
pub record Admitted (x : Read) (c : Counts) : Type 0 where
  pub events : List Event
  pub reads : x ≡ fine events
  pub opens : openings events ≡ c.statements
  pub gives : givings events ≡ c.values
  pub spells : bytes_given events ≡ c.bytes

pub tallied-admitted : (x : Read) (c : Counts) → tallied x ≡ Ok c → Admitted x c
tallied-admitted (fine es) c e =
    let q : record { statements = openings es; values = givings es; bytes = bytes_given es } ≡ c = cc in
    record {
      events = es;
      reads = refl;
      opens = ap (λ (d : Counts). d.statements) q;
      gives = ap (λ (d : Counts). d.values) q;
      spells = ap (λ (d : Counts). d.bytes) q;
    }
tallied-admitted (refused q l p) c e = let z : ◌≡◌ {A = ℕ} 0 1 = cc in absurd (omega arith)

tallied-refused : (x : Read) (f : TextFault) → tallied x ≡ Err f → x ≡ refused f.fault f.line f.place
tallied-refused (fine es) f e = let z : ◌≡◌ {A = ℕ} 0 1 = cc in absurd (omega arith)
tallied-refused (refused q l p) f e = let z : in_line l (faulty q p) ≡ f = cc in ap (λ (g : TextFault). refused g.fault g.line g.place) z

-- the text has them
pub text-counted : (label : ℕ) (bytes : List ℕ) (c : Counts) → tallied (read_text bytes) ≡ Ok c
    → Counted (text_of label bytes) c.statements c.values c.bytes
text-counted label bytes c t =
    let a = tallied-admitted (read_text bytes) c t in
    body-counted label bytes a.events a.reads c.statements c.values c.bytes a.opens a.gives a.spells

-- ---- the questions, in their order

module _ (label : ℕ) (bytes : List ℕ) (s : Pool) where
  pub label-asked : held label s ≡ true → load_answer label bytes s ≡ refusing LabelHeld
  unfolding load_answer
  label-asked h = rw h

  module _ (h : held label s ≡ false) where
    pub length-asked : ltb LONGEST_LOAD (length bytes) ≡ true → load_answer label bytes s ≡ refusing TextTooLong
    unfolding load_answer
    length-asked l = rw (h, l)

    -- the lines, and then the room
    pub text-asked : ltb LONGEST_LOAD (length bytes) ≡ false → load_answer label bytes s ≡ admitted (read_text bytes) (room (with s (text_of label bytes)))
    unfolding load_answer
    text-asked l = rw (h, l)

-- ---- the answers

-- the first pass tells a place that has room for one more
pub place-fits : (bytes : List ℕ) (f : TextFault) → tallied (read_text bytes) ≡ Err f → f.place ≤ LONGEST_LINE
place-fits bytes f t = place-most bytes f.fault f.line f.place (tallied-refused (read_text bytes) f t)

module _ (label : ℕ) (bytes m : List ℕ) where
  -- a refusal leaves the memory
  refuses : (q : Refusal) (line column : ℕ) → load_reply label bytes m ≡ refusing_at q line column → Loads label bytes m (refusing_at q line column) m
  unfolding load_memory
  refuses q line column e = record { reply = sym e; memory = rw e }

  pub unready : (q : Refusal) → with_none_open m ≡ Err q → Loads label bytes m (refusing q) m
  unfolding load_reply
  unready q e = refuses q 0 0 (closed-refused m q (load_answer label bytes (decode m)) e)

  module _ (ready : with_none_open m ≡ Ok tt) where
    e : sound m ≡ true
    e = closed-sound m ready

    o : opens m ≡ false
    o = closed-shut m ready

    undamaged : load_reply label bytes m ≡ load_answer label bytes (decode m)
    unfolding load_reply
    undamaged = rw (e, o)

    pub label-held : held label (decode m) ≡ true → Loads label bytes m (refusing LabelHeld) m
    label-held h = refuses LabelHeld 0 0 (undamaged ∙ label-asked label bytes (decode m) h)

    module _ (h : held label (decode m) ≡ false) where
      pub too_long : LONGEST_LOAD < length bytes → Loads label bytes m (refusing TextTooLong) m
      too_long l = refuses TextTooLong 0 0 (undamaged ∙ length-asked label bytes (decode m) h (lt-ltb LONGEST_LOAD (length bytes) l))

      module _ (l : length bytes ≤ LONGEST_LOAD) where
        -- by the first pass and the room
        answers : load_reply label bytes m ≡ admitted (read_text bytes) (room (with (decode m) (text_of label bytes)))
        answers = undamaged ∙ text-asked label bytes (decode m) h (le-ltb LONGEST_LOAD (length bytes) l)

        pub fault-told : (f : TextFault) → tallied (read_text bytes) ≡ Err f → Loads label bytes m (refusing_at (refusal_of f.fault) f.line (column_of f.place)) m
        fault-told f t =
            refuses (refusal_of f.fault) f.line (column_of f.place)
            (answers ∙ ap (λ (x : Read). admitted x (room (with (decode m) (text_of label bytes)))) (tallied-refused (read_text bytes) f t))

        module _ (c : Counts) (t : tallied (read_text bytes) ≡ Ok c) (y : Bool) (r : y ≡ room (with (decode m) (text_of label bytes))) where
          read : Admitted (read_text bytes) c
          read = tallied-admitted (read_text bytes) c t

          pub no_room : y ≡ false → Loads label bytes m (refusing NoRoom) m
          no_room f = refuses NoRoom 0 0 (answers ∙ (λ i. admitted (read.reads i) ((sym r ∙ f) i)))

          pub accepts : y ≡ true → Accepts label bytes c.statements c.values c.bytes m
          accepts f = record {
            undamaged = e;
            events = read.events;
            reads = read.reads;
            long = l;
            opens = read.opens;
            gives = read.gives;
            spells = read.spells;
            roomy = sym r ∙ f;
          }

          pub done : y ≡ true → (after : List ℕ) → after ≡ put (with (decode m) (text_of label bytes)) m → Loads label bytes m (Ok tt) after
          unfolding load_memory
          done f after p =
              let d : load_reply label bytes m ≡ Ok tt = answers ∙ (λ i. admitted (read.reads i) ((sym r ∙ f) i)) in
              record { reply = sym d; memory = rw d p }
