-- "After any sequence of calls every answer equals that of an empty pool into which only the texts still held are loaded, in the order of
-- their latest accepted load". "Demands 2 and 3 count a load at its closing and are claimed for answers given while none is open. Demand 3's
-- sequences may hold openings, parts and drops, a dropped text counting as never loaded, and its empty pool takes each text the way it came, by
-- load or by parts." Definitions only.
use Rattle.std.specs.Prelude.{ℕ, ◌≡◌, true, List, [], ◌∷◌, ◌++◌, map, eqb, Float, length, if◌then◌else◌}
use Rattle.layout.specs.State.{Text, Pool}
use Rattle.layout.specs.Limits.{WORDS}
use Rattle.loading.specs.Load.{text_of}
use Rattle.variables.specs.Variables.{variable}
use Rattle.variables.specs.Found.{doubles, found_in, filled}
use Rattle.variables.specs.Spelled.{string_of, spelled_in}
use Rattle.pool.specs.Fetch as F
use Rattle.pool.specs.Totals.{counts}
use Rattle.feeding.specs.Parts.{joined}
use Rattle.promises.specs.Calls.{Call, make_empty, load, open_load, feed_part, close_load, drop_load, remove, clear, fetch, fetch_string, totals, orientation, radii, Answer, fetched, spelled, counted, Build, number, accepted, ends_open, typed}
use Rattle.words.specs.Halves.{all}

-- "the way it came, by load or by parts"
pub data Way : Type 0 where
  whole : (bytes : List ℕ) → Way
  in_parts : (parts : List (List ℕ)) → Way

-- a text as it came, under its label
pub record Loaded : Type 0 where
  pub label : ℕ
  pub way : Way

-- the calls that bring it
abbrev pub coming : (label : ℕ) → Way → List Call
coming label (whole bytes) = load label bytes ∷ []
coming label (in_parts parts) = open_load label ∷ (map feed_part parts ++ (close_load ∷ []))

abbrev pub loading : Loaded → List Call
loading k = coming k.label k.way

-- the texts held, and the open one: its label and its parts so far
pub data Opened : Type 0 where
  none : Opened
  some : (label : ℕ) (parts : List (List ℕ)) → Opened

pub record Kept : Type 0 where
  pub texts : List Loaded
  pub opened : Opened

abbrev pub nothing : Kept
nothing = record { texts = []; opened = none }

abbrev pub closed : List Loaded → Kept
closed ks = record { texts = ks; opened = none }

-- the others, in their order
unfoldable pub removing : ℕ → List Loaded → List Loaded
removing label [] = []
removing label (k ∷ ks) = if eqb k.label label then ks else (k ∷ removing label ks)

-- one part more, and the closing that is accepted
abbrev pub fed_with : (part : List ℕ) → Opened → Opened
fed_with part none = none
fed_with part (some label parts) = some label (parts ++ (part ∷ []))

abbrev pub closing : Opened → List Loaded → List Loaded
closing none ks = ks
closing (some label parts) ks = ks ++ (record { label = label; way = in_parts parts } ∷ [])

-- after a call that was accepted: a load puts its text last, a closing the open one, a removal takes one out, make empty and clear take all;
-- a dropped text counts "as never loaded"
abbrev pub kept : Call → Kept → Kept
kept make_empty k = nothing
kept (load label bytes) k = record { texts = k.texts ++ (record { label = label; way = whole bytes } ∷ []); opened = k.opened }
kept (open_load label) k = record { texts = k.texts; opened = some label [] }
kept (feed_part part) k = record { texts = k.texts; opened = fed_with part k.opened }
kept close_load k = closed (closing k.opened k.texts)
kept drop_load k = closed k.texts
kept (remove label) k = record { texts = removing label k.texts; opened = k.opened }
kept clear k = closed []
kept (fetch name buffer) k = k
kept (fetch_string name place buffer) k = k
kept totals k = k
kept (orientation source code epoch) k = k
kept (radii source code) k = k

-- after one that was refused with this number: "A closing refused by any but 8 and 15 ends the open text"
abbrev pub refused_with : Call → (number : ℕ) → Kept → Kept
refused_with c number k = if ends_open c number then closed k.texts else k

-- ---- of any build

-- the memory after a sequence of calls
unfoldable pub after : Build → List Call → (m : List ℕ) → List ℕ
after b [] m = m
after b (c ∷ cs) m = after b cs (b.memory c m)

-- the memory after an opening and some parts
abbrev pub fed_under : Build → (label : ℕ) (parts : List (List ℕ)) (m : List ℕ) → List ℕ
fed_under b label parts m = after b (open_load label ∷ map feed_part parts) m

-- the texts still held after a sequence of calls on m, in the order of their latest accepted load or closing, and the open one, k being so before
unfoldable pub still : Build → List Call → (m : List ℕ) → Kept → Kept
unfolding removing
still b [] m k = k
still b (c ∷ cs) m k = still b cs (b.memory c m) (if accepted (b.answer c m) then kept c k else refused_with c (number (b.answer c m)) k)

-- the calls that bring them all into an empty pool
unfoldable pub replayed : List Loaded → List Call
replayed [] = []
replayed (k ∷ ks) = loading k ++ replayed ks

-- a pool that was just made empty, in a memory of the fixed size that held anything before
pub record Fresh (b : Build) (m : List ℕ) : Type 0 where
  pub earlier : List ℕ
  pub size : length earlier ≡ WORDS
  pub emptied : m ≡ b.memory make_empty earlier

-- every part in it is bytes
abbrev pub Typed : List Call → Type 0
Typed history = all typed history ≡ true

-- while none is open; the two empty pools may differ in their unused words
abbrev pub Replay : Build → Type 0
Replay b =
    (m m' : List ℕ) → Fresh b m → Fresh b m' → (history : List Call) (c : Call) → Typed history → (still b history m nothing).opened ≡ none
    → b.answer c (after b history m) ≡ b.answer c (after b (replayed (still b history m nothing).texts) m')

-- and so do all answers from there on: whatever further calls are made, their parts being bytes as every real part is
abbrev pub Onward : Build → Type 0
Onward b =
    (m m' : List ℕ) → Fresh b m → Fresh b m' → (history further : List Call) (c : Call) → Typed history → Typed further
    → (still b history m nothing).opened ≡ none
    → b.answer c (after b further (after b history m))
    ≡ b.answer c (after b further (after b (replayed (still b history m nothing).texts) m'))

-- and the replayed calls are all accepted
unfoldable pub AllAccepted : Build → List Call → (m : List ℕ) → Type 0
AllAccepted b [] m = Unit {0}
AllAccepted b (c ∷ cs) m = (accepted (b.answer c m) ≡ true) × AllAccepted b cs (b.memory c m)

abbrev pub Replayed : Build → Type 0
Replayed b =
    (m m' : List ℕ) → Fresh b m → Fresh b m' → (history : List Call) → Typed history → AllAccepted b (replayed (still b history m nothing).texts) m'

-- ---- what the fetches and totals answer; "totals being the counts summed over those texts"

-- its bytes, the parts joined
abbrev pub bytes_of : Way → List ℕ
bytes_of (whole bytes) = bytes
bytes_of (in_parts parts) = joined parts

abbrev pub text : Loaded → Text
text k = text_of k.label (bytes_of k.way)

-- the texts still held, as the rules read them
abbrev pub texts : Build → List Call → (m : List ℕ) → Pool
texts b history m = map text (still b history m nothing).texts

-- what fetch answers and leaves where these texts are held: the variable's values (specs/Sentence.antt), if there is one and it has room
abbrev pub fetching : List ℕ → (buffer : List Float) → Pool → Answer
fetching name buffer s = fetched (F.fetched (found_in name (length buffer) s)) (filled (found_in name (length buffer) s) (doubles name s) buffer)

-- and of a string: the one at the place, if there is one and it has room
abbrev pub spelling : List ℕ → (place : ℕ) (buffer : List ℕ) → Pool → Answer
spelling name place buffer s =
    spelled (F.fetched (spelled_in name place (length buffer) s))
    (filled (spelled_in name place (length buffer) s) (string_of place (variable name s)) buffer)

-- also while one is open: "Until closing, queries see the pool as it stood at opening"
pub record OfHeldTexts (b : Build) : Type 0 where
  pub variables :
      (m : List ℕ) → Fresh b m → (history : List Call) (name : List ℕ) (buffer : List Float) → Typed history
      → b.answer (fetch name buffer) (after b history m) ≡ fetching name buffer (texts b history m)
  pub strings :
      (m : List ℕ) → Fresh b m → (history : List Call) (name : List ℕ) (place : ℕ) (buffer : List ℕ) → Typed history
      → b.answer (fetch_string name place buffer) (after b history m) ≡ spelling name place buffer (texts b history m)
  pub sums : (m : List ℕ) → Fresh b m → (history : List Call) → Typed history → b.answer totals (after b history m) ≡ counted (counts (texts b history m))
