-- The calls as one: what a call answers on a memory, and the memory that it leaves. Definitions only: each line is the contract
-- of a function of `globe`.
use Rattle.std.specs.Prelude.{ℕ, Bool, true, false, not, ◌&&◌, List, [], ◌∷◌, eqb, Float, length, Ok, Err, Result}
use Rattle.refusal.specs.declared.Refusal.{Refusal}
use Rattle.refusal.specs.Numbers.{SUCCESS, number_of}
use Rattle.refusal.specs.declared.Refusal.TheVariants.{NotHeld, DamagedPool}
use Rattle.pool.specs.Replies.{Counted, Fetched, Reply, reply_number, reply_line, reply_column, fetched_number, fetched_count, counts_number}
use Rattle.pool.specs.Empty.{empty_reply, clear_reply, emptied}
use Rattle.loading.specs.Load.{load_reply, load_memory}
use Rattle.pool.specs.Remove.{remove_reply, remove_memory}
use Rattle.pool.specs.Fetch.{fetch_reply, fetch_buffer}
use Rattle.pool.specs.FetchString.{string_reply, string_buffer}
use Rattle.pool.specs.Totals.{totals_reply}
use Rattle.intake.specs.Calls.{are_bytes, open_reply, open_memory, feed_reply, feed_memory, close_reply, close_memory, drop_memory}
use Rattle.globe.specs.Orientation.{orientation_reply}
use Rattle.globe.specs.Radii.{radii_reply}
use Rattle.rotation.specs.declared.matrix.Orientation.{Orientation}
use Rattle.rotation.specs.declared.table.Axes.{Axes}
use Rattle.globe.specs.declared.source.Source.{Source}

-- a call with its arguments; the two fetches come with the buffer that is lent
pub data Call : Type 0 where
  make_empty : Call
  load : (label : ℕ) (bytes : List ℕ) → Call
  open_load : (label : ℕ) → Call
  feed_part : (part : List ℕ) → Call
  close_load : Call
  drop_load : Call
  remove : (label : ℕ) → Call
  clear : Call
  fetch : (name : List ℕ) (buffer : List Float) → Call
  fetch_string : (name : List ℕ) (place : ℕ) (buffer : List ℕ) → Call
  totals : Call
  orientation : Source → (code : ℕ) (epoch : Float) → Call
  radii : Source → (code : ℕ) → Call

-- what a call answers; the two fetches also leave a buffer
pub data Answer : Type 0 where
  replied : Reply → Answer
  fetched : Fetched → (buffer : List Float) → Answer
  spelled : Fetched → (buffer : List ℕ) → Answer
  counted : Counted → Answer
  oriented : Result Orientation Refusal → Answer
  measured : Result Axes Refusal → Answer

unfoldable pub asked : Call → (m : List ℕ) → Answer
asked make_empty m = replied (empty_reply m)
asked (load label bytes) m = replied (load_reply label bytes m)
asked (open_load label) m = replied (open_reply label m)
asked (feed_part part) m = replied (feed_reply m)
asked close_load m = replied (close_reply m)
asked drop_load m = replied (feed_reply m)
asked (remove label) m = replied (remove_reply label m)
asked clear m = replied (clear_reply m)
asked (fetch name buffer) m = fetched (fetch_reply name (length buffer) m) (fetch_buffer name m buffer)
asked (fetch_string name place buffer) m = spelled (string_reply name place (length buffer) m) (string_buffer name place m buffer)
asked totals m = counted (totals_reply m)
asked (orientation source code epoch) m = oriented (orientation_reply source m code epoch)
asked (radii source code) m = measured (radii_reply source m code)

-- a part is bytes, as a slice of them is
abbrev pub typed : Call → Bool
typed make_empty = true
typed (load label bytes) = true
typed (open_load label) = true
typed (feed_part part) = are_bytes part
typed close_load = true
typed drop_load = true
typed (remove label) = true
typed clear = true
typed (fetch name buffer) = true
typed (fetch_string name place buffer) = true
typed totals = true
typed (orientation source code epoch) = true
typed (radii source code) = true

-- the memory after a call
unfoldable pub leaves : Call → (m : List ℕ) → List ℕ
leaves make_empty m = emptied (empty_reply m) m
leaves (load label bytes) m = load_memory label bytes m
leaves (open_load label) m = open_memory label m
leaves (feed_part part) m = feed_memory part m
leaves close_load m = close_memory m
leaves drop_load m = drop_memory m
leaves (remove label) m = remove_memory label m
leaves clear m = emptied (clear_reply m) m
leaves (fetch name buffer) m = m
leaves (fetch_string name place buffer) m = m
leaves totals m = m
leaves (orientation source code epoch) m = m
leaves (radii source code) m = m

-- a call that is lent the pool to read only
abbrev pub query : Call → Bool
query make_empty = false
query (load label bytes) = false
query (open_load label) = false
query (feed_part part) = false
query close_load = false
query drop_load = false
query (remove label) = false
query clear = false
query (fetch name buffer) = true
query (fetch_string name place buffer) = true
query totals = true
query (orientation source code epoch) = true
query (radii source code) = true

-- ---- builds

-- a build of the library: what each call answers on a memory, and the memory that it leaves
pub record Build : Type 0 where
  pub answer : Call → (m : List ℕ) → Answer
  pub memory : Call → (m : List ℕ) → List ℕ

-- this one, by its contracts
abbrev pub library : Build
library = record { answer = asked; memory = leaves }

-- ---- an answer as document 01 gives it: "Success is number 0 with line 0"; "A refusal returns its number, for 3 to 6 the line (0 for all
-- others), and no values"

abbrev pub number : Answer → ℕ
number (replied r) = reply_number r
number (fetched r buffer) = fetched_number r
number (spelled r buffer) = fetched_number r
number (counted r) = counts_number r
number (oriented (Ok o)) = SUCCESS
number (oriented (Err q)) = number_of q
number (measured (Ok x)) = SUCCESS
number (measured (Err q)) = number_of q

abbrev pub accepted : Answer → Bool
accepted a = eqb (number a) SUCCESS

abbrev pub line : Answer → ℕ
line (replied r) = reply_line r
line (fetched r buffer) = 0
line (spelled r buffer) = 0
line (counted r) = 0
line (oriented r) = 0
line (measured r) = 0

-- "give the column, counted from 1, beside the line"
abbrev pub column : Answer → ℕ
column (replied r) = reply_column r
column (fetched r buffer) = 0
column (spelled r buffer) = 0
column (counted r) = 0
column (oriented r) = 0
column (measured r) = 0

-- "fetch also tells the count (0 when refused)"; of a string "its length told"
abbrev pub count : Answer → ℕ
count (replied r) = 0
count (fetched r buffer) = fetched_count r
count (spelled r buffer) = fetched_count r
count (counted r) = 0
count (oriented r) = 0
count (measured r) = 0

-- pole, meridian and the matrix, row by row; the radii
abbrev pub doubles : Answer → List Float
doubles (replied r) = []
doubles (fetched r buffer) = []
doubles (spelled r buffer) = []
doubles (counted r) = []
doubles (oriented (Ok o)) =
    o.ra ∷ o.dec ∷ o.w ∷ o.m11 ∷ o.m12 ∷ o.m13 ∷ o.m21 ∷ o.m22 ∷ o.m23 ∷ o.m31 ∷ o.m32 ∷ o.m33 ∷ []
doubles (oriented (Err q)) = []
doubles (measured (Ok x)) = x.a ∷ x.b ∷ x.c ∷ []
doubles (measured (Err q)) = []

-- the totals: texts, statements, values
abbrev pub totalled : Answer → List ℕ
totalled (replied r) = []
totalled (fetched r buffer) = []
totalled (spelled r buffer) = []
totalled (counted (Ok c)) = c.texts ∷ c.statements ∷ c.values ∷ []
totalled (counted (Err q)) = []
totalled (oriented r) = []
totalled (measured r) = []

-- ---- the buffer that a call is lent, and the one that it gives back: of doubles, or of bytes

pub record Buffers : Type 0 where
  pub values : List Float
  pub bytes : List ℕ

abbrev pub none : Buffers
none = record { values = []; bytes = [] }

abbrev pub lent : Call → Buffers
lent make_empty = none
lent (load label bytes) = none
lent (open_load label) = none
lent (feed_part part) = none
lent close_load = none
lent drop_load = none
lent (remove label) = none
lent clear = none
lent (fetch name buffer) = record { values = buffer; bytes = [] }
lent (fetch_string name place buffer) = record { values = []; bytes = buffer }
lent totals = none
lent (orientation source code epoch) = none
lent (radii source code) = none

abbrev pub returned : Answer → Buffers
returned (replied r) = none
returned (fetched r buffer) = record { values = buffer; bytes = [] }
returned (spelled r buffer) = record { values = []; bytes = buffer }
returned (counted r) = none
returned (oriented r) = none
returned (measured r) = none

-- ---- "A closing refused by any but 8 and 15 ends the open text, its only change"

abbrev pub ends_open : Call → (number : ℕ) → Bool
ends_open make_empty n = false
ends_open (load label bytes) n = false
ends_open (open_load label) n = false
ends_open (feed_part part) n = false
ends_open close_load n = not (eqb n (number_of NotHeld)) && not (eqb n (number_of DamagedPool))
ends_open drop_load n = false
ends_open (remove label) n = false
ends_open clear n = false
ends_open (fetch name buffer) n = false
ends_open (fetch_string name place buffer) n = false
ends_open totals n = false
ends_open (orientation source code epoch) n = false
ends_open (radii source code) n = false
