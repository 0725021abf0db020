-- Every answer of an undamaged pool is a function of the texts that it holds and of the open one: no call looks at anything but the damage test,
-- the texts and how the open one stands. Assumes nothing.
use Prim.Native.Nat.{ℕ}
use mathlib.Core.Path.{◌≡◌, refl, sym}
use mathlib.Core.Bool.{Bool, true, false}
use mathlib.Core.List.{List}
use borrow.Author.Tests.{eq-eqb}
use lib.ListN.{length}
use Rattle.std.specs.Prelude.{if◌then◌else◌, Ok}
use Rattle.plain.proofs.Tests.{true-false}
use Rattle.refusal.specs.declared.Refusal.TheVariants.{LabelHeld, NotHeld, TextOpen}
use Rattle.rotation.specs.Builtin.{builtin_orientation, builtin_radii}
use Rattle.layout.specs.State.{Pool}
use Rattle.layout.specs.Limits.{WORDS}
use Rattle.layout.specs.Memory.{decode, opens, open_label}
use Rattle.layout.specs.Damage.{sized, sound}
use Rattle.layout.proofs.Sound.{sound-of}
use Rattle.pool.specs.Replies.{Reply, refusing}
use Rattle.pool.specs.Empty.{empty_reply, clear_reply}
use Rattle.pool.specs.Held.{held}
use Rattle.loading.specs.Load.{load_answer, load_reply}
use Rattle.pool.specs.Remove.{remove_answer, remove_reply}
use Rattle.variables.specs.Variables.{variable}
use Rattle.variables.specs.Found.{doubles, found_in, filled}
use Rattle.variables.specs.Spelled.{string_of, spelled_in}
use Rattle.pool.specs.Fetch.{fetched, fetch_reply, fetch_buffer}
use Rattle.pool.specs.FetchString.{string_reply, string_buffer}
use Rattle.pool.specs.Totals.{counts, totals_reply}
use Rattle.feeding.specs.Parts.{Open}
use Rattle.opening.specs.Storing.{Progress}
use Rattle.opening.specs.Closing.{close_answer}
use Rattle.intake.specs.Opened.{state_in}
use Rattle.intake.specs.Calls.{open_reply, feed_reply, close_reply}
use Rattle.globe.specs.Orientation.{orientation_from, orientation_reply}
use Rattle.globe.specs.Radii.{radii_from, radii_reply}
use Rattle.globe.specs.declared.source.Source.TheVariants as S
use Rattle.promises.specs.Calls as C
use Rattle.promises.specs.Calls.{Call, Answer, asked, query}

-- ---- the state of a memory: the texts held, and the open one, its label and how it stands

pub data Openness : Type 0 where
  shut : Openness
  ajar : (label : ℕ) → Open Progress → Openness

pub record State : Type 0 where
  pub texts : Pool
  pub opened : Openness

-- these texts, and none open
abbrev pub closed : Pool → State
closed s = record { texts = s; opened = shut }

abbrev pub openness : Bool → (label : ℕ) → Open Progress → Openness
openness true label o = ajar label o
openness false label o = shut

abbrev pub state_of : List ℕ → State
state_of m = record { texts = decode m; opened = openness (opens m) (open_label m) (state_in m) }

-- ---- what a call answers in a state

-- 22 while one is open; 8 while none is
abbrev pub wanting_none : Openness → Reply → Reply
wanting_none shut r = r
wanting_none (ajar label o) r = refusing TextOpen

abbrev pub wanting_one : Openness → (Open Progress → Reply) → Reply
wanting_one shut f = refusing NotHeld
wanting_one (ajar label o) f = f o

abbrev pub open_answer : (label : ℕ) → Pool → Reply
open_answer label s = if held label s then refusing LabelHeld else Ok tt

unfoldable pub says : Call → State → Answer
says C.make_empty s = C.replied (Ok tt)
says (C.load label bytes) s = C.replied (wanting_none s.opened (load_answer label bytes s.texts))
says (C.open_load label) s = C.replied (wanting_none s.opened (open_answer label s.texts))
says (C.feed_part part) s = C.replied (wanting_one s.opened (λ o. Ok tt))
says C.close_load s = C.replied (wanting_one s.opened (close_answer s.texts))
says C.drop_load s = C.replied (wanting_one s.opened (λ o. Ok tt))
says (C.remove label) s = C.replied (wanting_none s.opened (remove_answer label s.texts))
says C.clear s = C.replied (wanting_none s.opened (Ok tt))
says (C.fetch name buffer) s =
    C.fetched (fetched (found_in name (length buffer) s.texts)) (filled (found_in name (length buffer) s.texts) (doubles name s.texts) buffer)
says (C.fetch_string name place buffer) s =
    C.spelled (fetched (spelled_in name place (length buffer) s.texts))
    (filled (spelled_in name place (length buffer) s.texts) (string_of place (variable name s.texts)) buffer)
says C.totals s = C.counted (counts s.texts)
says (C.orientation S.Builtin code epoch) s = C.oriented (builtin_orientation code epoch)
says (C.orientation S.Pool code epoch) s = C.oriented (orientation_from s.texts code epoch)
says (C.radii S.Builtin code) s = C.measured (builtin_radii code)
says (C.radii S.Pool code) s = C.measured (radii_from s.texts code)

-- "Until closing, queries see the pool as it stood at opening"
pub query-says : (c : Call) (s : State) → query c ≡ true → says c s ≡ says c (closed s.texts)
unfolding says
query-says C.make_empty s q = true-false (sym q)
query-says (C.load label bytes) s q = true-false (sym q)
query-says (C.open_load label) s q = true-false (sym q)
query-says (C.feed_part part) s q = true-false (sym q)
query-says C.close_load s q = true-false (sym q)
query-says C.drop_load s q = true-false (sym q)
query-says (C.remove label) s q = true-false (sym q)
query-says C.clear s q = true-false (sym q)
query-says (C.fetch name buffer) s q = refl
query-says (C.fetch_string name place buffer) s q = refl
query-says C.totals s q = refl
query-says (C.orientation S.Builtin code epoch) s q = refl
query-says (C.orientation S.Pool code epoch) s q = refl
query-says (C.radii S.Builtin code) s q = refl
query-says (C.radii S.Pool code) s q = refl

-- ---- on a memory

-- an undamaged pool has the fixed size
pub sound-size : (m : List ℕ) → sound m ≡ true → length m ≡ WORDS
sound-size m e = (sound-of m e).sizes.words

pub sound-sized : (m : List ℕ) → sound m ≡ true → sized m ≡ true
sound-sized m e = eq-eqb (length m) WORDS (sound-size m e)

none-asked : (b : Bool) (label : ℕ) (o : Open Progress) (r : Reply) → (if b then refusing TextOpen else r) ≡ wanting_none (openness b label o) r
none-asked true label o r = refl
none-asked false label o r = refl

one-asked : (b : Bool) (label : ℕ) (o : Open Progress) (f : Open Progress → Reply) → (if b then f o else refusing NotHeld) ≡ wanting_one (openness b label o) f
one-asked true label o f = refl
one-asked false label o f = refl

module _ (m : List ℕ) (e : sound m ≡ true) where
  none_said : (r : Reply) → C.replied (if opens m then refusing TextOpen else r) ≡ C.replied (wanting_none (state_of m).opened r)
  none_said r = rw (none-asked (opens m) (open_label m) (state_in m) r)

  one-said : (f : Open Progress → Reply) → C.replied (if opens m then f (state_in m) else refusing NotHeld) ≡ C.replied (wanting_one (state_of m).opened f)
  one-said f = rw (one-asked (opens m) (open_label m) (state_in m) f)

  pub asked-says : (c : Call) → asked c m ≡ says c (state_of m)
  unfolding asked says empty_reply clear_reply load_reply remove_reply open_reply feed_reply close_reply fetch_reply fetch_buffer string_reply string_buffer totals_reply orientation_reply radii_reply
  asked-says C.make_empty = rw (sound-sized m e)
  asked-says (C.load label bytes) = rw e (none_said (load_answer label bytes (decode m)))
  asked-says (C.open_load label) = rw e (none_said (open_answer label (decode m)))
  asked-says (C.feed_part part) = rw e (one-said (λ o. Ok tt))
  asked-says C.close_load = rw e (one-said (close_answer (decode m)))
  asked-says C.drop_load = rw e (one-said (λ o. Ok tt))
  asked-says (C.remove label) = rw e (none_said (remove_answer label (decode m)))
  asked-says C.clear = rw e (none_said (Ok tt))
  asked-says (C.fetch name buffer) = rw e
  asked-says (C.fetch_string name place buffer) = rw e
  asked-says C.totals = rw e
  asked-says (C.orientation S.Builtin code epoch) = refl
  asked-says (C.orientation S.Pool code epoch) = rw e
  asked-says (C.radii S.Builtin code) = refl
  asked-says (C.radii S.Pool code) = rw e
