-- Demands 1 and 2, as the customer says them. Definitions only; the theorems are in proofs/.
use Rattle.std.specs.Prelude.{ℕ, ◌≤◌, ◌≡◌, Bool, true, false, ◌||◌, List, [], ◌∷◌, ◌++◌, ◌↔◌, ◌⊎◌, Float, length, drop, if◌then◌else◌, Some, Ok}
use Rattle.std.specs.Float.Ieee.Scale.{finite}
use Rattle.plain.specs.Bytes.{within}
use Rattle.refusal.specs.Numbers.{number_of}
use Rattle.refusal.specs.declared.Refusal.{Refusal}
use Rattle.rotation.specs.Epochs.{in_reach}
use Rattle.rotation.specs.Codes.{system_of}
use Rattle.rotation.specs.Elements.{LINEAR}
use Rattle.rotation.specs.Evaluation.{evaluated}
use Rattle.rotation.specs.Table.{row_of, neptune_angle, neptune_ra, neptune_dec, neptune_pm, size_of}
use Rattle.rotation.specs.Builtin.{neptunes, row_evaluated}
use Rattle.rotation.specs.Range.{InRange}
use Rattle.rotation.specs.Finite.{Finite}
use Rattle.rotation.specs.Overflow.{NeverOverflows}
use Rattle.rotation.specs.declared.elements.Elements.{Elements}
use Rattle.rotation.specs.declared.matrix.Orientation.{Orientation}
use Rattle.rotation.specs.declared.table.Axes.{Axes}
use Rattle.text.specs.Columns.{column_of, Pointed}
use Rattle.value.specs.Faults.{refusal_of}
use Rattle.statement.specs.Statements.{Event}
use Rattle.text.specs.Text.{fine, refused, read_text}
use Rattle.value.specs.declared.faults.Fault.{Fault}
use Rattle.layout.specs.State.{Pool}
use Rattle.layout.specs.Limits.{room, LONGEST_LOAD}
use Rattle.layout.specs.Memory.{decode, opens}
use Rattle.layout.specs.Damage.{sound}
use Rattle.pool.specs.Replies.{Fetched, refusing_at}
use Rattle.pool.specs.Empty.{Empties, Clears}
use Rattle.pool.specs.Held.{held}
use Rattle.loading.specs.Load.{text_of, with, Loads}
use Rattle.pool.specs.Remove.{Removes}
use Rattle.feeding.specs.Parts.{MOST, joined}
use Rattle.intake.specs.Opened.{shut}
use Rattle.intake.specs.Calls.{are_bytes, Opens, Feeds, Closes, Drops}
use Rattle.variables.specs.Found as F
use Rattle.variables.specs.Variables.{variable}
use Rattle.variables.specs.Spelled.{string_of}
use Rattle.pool.specs.Fetch.{Fetches}
use Rattle.pool.specs.FetchString.{FetchesString}
use Rattle.pool.specs.Totals.{Totals}
use Rattle.wanted.specs.Elements.{there, numeric, none_there, complete, all_numeric, well_counted, elements, angles, list}
use Rattle.degree.specs.Degree as G
use Rattle.globe.specs.Orientation.{Orients}
use Rattle.globe.specs.Radii.{positive, all_positive, Measures}
use Rattle.globe.specs.declared.source.Source.{Source}
use Rattle.globe.specs.declared.source.Source.TheVariants as S
use Rattle.wanted.specs.declared.name.Wanted.TheVariants as W
use Rattle.promises.specs.Calls as C
use Rattle.promises.specs.Calls.{Call, Answer, load, orientation, radii, oriented, measured, query, Build, number, line, column, count, doubles, totalled, accepted, ends_open, lent, returned}
use Rattle.promises.specs.Histories.{fed_under}

-- ---- demand 1: "Every public call has a contract that determines result and lent memory entirely, refusals too."

-- an answer of the call's kind that meets the call's contract
pub record Meets {A : Type 0} (kind : A → Answer) (Contract : A → Type 0) (answer : Answer) : Type 0 where
  pub told : A
  pub is : answer ≡ kind told
  pub contract : Contract told

-- each call meets its contract: the record that the function of `globe` ensures; and a call that is lent the pool to read only leaves it
pub record Contracts (b : Build) : Type 0 where
  pub make_empty : (m : List ℕ) → Meets C.replied (λ r. Empties m r (b.memory C.make_empty m)) (b.answer C.make_empty m)
  pub load :
      (label : ℕ) (bytes m : List ℕ)
      → Meets C.replied (λ r. Loads label bytes m r (b.memory (C.load label bytes) m)) (b.answer (C.load label bytes) m)
  pub open_load :
      (label : ℕ) (m : List ℕ) → Meets C.replied (λ r. Opens label m r (b.memory (C.open_load label) m)) (b.answer (C.open_load label) m)
  pub feed_part :
      (part m : List ℕ) → Meets C.replied (λ r. Feeds part m r (b.memory (C.feed_part part) m)) (b.answer (C.feed_part part) m)
  pub close_load : (m : List ℕ) → Meets C.replied (λ r. Closes m r (b.memory C.close_load m)) (b.answer C.close_load m)
  pub drop_load : (m : List ℕ) → Meets C.replied (λ r. Drops m r (b.memory C.drop_load m)) (b.answer C.drop_load m)
  pub remove :
      (label : ℕ) (m : List ℕ) → Meets C.replied (λ r. Removes label m r (b.memory (C.remove label) m)) (b.answer (C.remove label) m)
  pub clear : (m : List ℕ) → Meets C.replied (λ r. Clears m r (b.memory C.clear m)) (b.answer C.clear m)
  pub fetch :
      (name m : List ℕ) (buffer : List Float)
      → Meets {A = Fetched × List Float} (λ r. C.fetched r.0 r.1) (λ r. Fetches name m buffer r.0 r.1) (b.answer (C.fetch name buffer) m)
  pub fetch_string :
      (name : List ℕ) (place : ℕ) (m buffer : List ℕ)
      → Meets {A = Fetched × List ℕ} (λ r. C.spelled r.0 r.1) (λ r. FetchesString name place m buffer r.0 r.1)
      (b.answer (C.fetch_string name place buffer) m)
  pub totals : (m : List ℕ) → Meets C.counted (Totals m) (b.answer C.totals m)
  pub orientation :
      (source : Source) (m : List ℕ) (n : ℕ) (epoch : Float)
      → Meets C.oriented (Orients source m n epoch) (b.answer (C.orientation source n epoch) m)
  pub radii : (source : Source) (m : List ℕ) (n : ℕ) → Meets C.measured (Measures source m n) (b.answer (C.radii source n) m)
  pub queries : (c : Call) (m : List ℕ) → query c ≡ true → b.memory c m ≡ m

-- "That no second answer could satisfy it is itself proved"

-- one answer at most meets a contract on the answer; of one on the answer and what is left in lent memory, one pair at most
abbrev pub OneAnswer : {A : Type 0} → (A → Type 0) → Type 0
OneAnswer {A} Meets = (r r' : A) → Meets r → Meets r' → r ≡ r'

abbrev pub OneOutcome : {A B : Type 0} → (A → B → Type 0) → Type 0
OneOutcome {A} {B} Meets = (r r' : A) (after after' : B) → Meets r after → Meets r' after' → (r ≡ r') × (after ≡ after')

pub record NoSecondAnswer : Type 0 where
  pub make_empty : (before : List ℕ) → OneOutcome (Empties before)
  pub load : (label : ℕ) (bytes before : List ℕ) → OneOutcome (Loads label bytes before)
  pub open_load : (label : ℕ) (before : List ℕ) → OneOutcome (Opens label before)
  pub feed_part : (part before : List ℕ) → OneOutcome (Feeds part before)
  pub close_load : (before : List ℕ) → OneOutcome (Closes before)
  pub drop_load : (before : List ℕ) → OneOutcome (Drops before)
  pub remove : (label : ℕ) (before : List ℕ) → OneOutcome (Removes label before)
  pub clear : (before : List ℕ) → OneOutcome (Clears before)
  pub fetch : (name memory : List ℕ) (before : List Float) → OneOutcome (Fetches name memory before)
  pub fetch_string : (name : List ℕ) (place : ℕ) (memory before : List ℕ) → OneOutcome (FetchesString name place memory before)
  pub totals : (memory : List ℕ) → OneAnswer (Totals memory)
  pub orientation : (source : Source) (memory : List ℕ) (n : ℕ) (epoch : Float) → OneAnswer (Orients source memory n epoch)
  pub radii : (source : Source) (memory : List ℕ) (n : ℕ) → OneAnswer (Measures source memory n)

-- "for 3 to 6 and all the new ones": the numbers that come with a line and a column
abbrev pub points : ℕ → Bool
points n = within 3 6 n || within 17 21 n

-- the text's first fault is this refusal, at this one of its lines and this column of it
pub record Faulty (bytes : List ℕ) (q : Refusal) (n column : ℕ) : Type 0 where
  pub fault : Fault
  pub place : ℕ
  pub refusal : q ≡ refusal_of fault
  pub read : read_text bytes ≡ refused fault n place
  pub column-is : column ≡ column_of place
  pub pointed : Pointed bytes n column

-- "Success is number 0 with line 0, and fetch also tells the count (0 when refused). A refusal returns its number, for 3 to 6 the line (0
-- for all others), and no values"; the column beside the line
pub record Reports (b : Build) : Type 0 where
  pub success : (c : Call) (m : List ℕ) → accepted (b.answer c m) ≡ true → (line (b.answer c m) ≡ 0) × (column (b.answer c m) ≡ 0)
  pub others :
      (c : Call) (m : List ℕ) → points (number (b.answer c m)) ≡ false → (line (b.answer c m) ≡ 0) × (column (b.answer c m) ≡ 0)
  pub faults :
      (label : ℕ) (bytes m : List ℕ) (q : Refusal) (n k : ℕ) → b.answer (load label bytes) m ≡ C.replied (refusing_at q n k)
      → points (number_of q) ≡ true → Faulty bytes q n k
  pub faults_of_parts :
      (label : ℕ) (parts : List (List ℕ)) (m : List ℕ) (q : Refusal) (n k : ℕ) → are_bytes (joined parts) ≡ true → accepted (b.answer (C.open_load label) m) ≡ true
      → b.answer C.close_load (fed_under b label parts m) ≡ C.replied (refusing_at q n k) → points (number_of q) ≡ true → Faulty (joined parts) q n k
  pub no_values :
      (c : Call) (m : List ℕ) → accepted (b.answer c m) ≡ false
      → (count (b.answer c m) ≡ 0) × (doubles (b.answer c m) ≡ []) × (totalled (b.answer c m) ≡ [])

-- "a refusal changes nothing in the pool or any lent buffer", but that a closing "refused by any but 8 and 15 ends the open text, its only change":
-- the one word that says so
abbrev pub RefusalChangesNothing : Build → Type 0
RefusalChangesNothing b =
    (c : Call) (m : List ℕ) → accepted (b.answer c m) ≡ false → (b.memory c m ≡ (if ends_open c (number (b.answer c m)) then shut m else m))
    × (returned (b.answer c m) ≡ lent c)

-- "A successful fetch writes the values from the buffer's start and no further."
abbrev pub FetchWrites : Build → Type 0
FetchWrites b =
    (name m : List ℕ) (buffer : List Float) → accepted (b.answer (C.fetch name buffer) m) ≡ true
    → (count (b.answer (C.fetch name buffer) m) ≡ length (F.doubles name (decode m)))
    × ((returned (b.answer (C.fetch name buffer) m)).values ≡ F.doubles name (decode m) ++ drop (length (F.doubles name (decode m))) buffer)

-- "Strings are fetched by place, counted from 1, each to the start of a lent byte buffer, its length told."
abbrev pub FetchStringWrites : Build → Type 0
FetchStringWrites b =
    (name : List ℕ) (place : ℕ) (m buffer : List ℕ) → accepted (b.answer (C.fetch_string name place buffer) m) ≡ true
    → (count (b.answer (C.fetch_string name place buffer) m) ≡ length (string_of place (variable name (decode m))))
    × ((returned (b.answer (C.fetch_string name place buffer) m)).bytes
    ≡ string_of place (variable name (decode m)) ++ drop (length (string_of place (variable name (decode m)))) buffer)

-- no call damages an undamaged pool
abbrev pub NoDamage : Build → Type 0
NoDamage b = (c : Call) (m : List ℕ) → sound m ≡ true → sound (b.memory c m) ≡ true

-- ---- demand 2: "A text is accepted exactly when its label is not held, the rules admit it and the undamaged pool has room."

-- with at most so many bytes, while no text is open
pub record Admissible (longest label : ℕ) (bytes m : List ℕ) : Type 0 where
  pub undamaged : sound m ≡ true
  pub none_open : opens m ≡ false
  pub free : held label (decode m) ≡ false
  pub short : length bytes ≤ longest
  pub events : List Event
  pub admitted : read_text bytes ≡ fine events
  pub roomy : room (with (decode m) (text_of label bytes)) ≡ true

-- "An orientation is given exactly when the epoch is in range, the code is one of document 01's and the chosen source has the elements;
-- it equals document 01's evaluation bit for bit": of the texts of a pool
pub record HasElements (s : Pool) (n : ℕ) (epoch : Float) (o : Orientation) : Type 0 where
  pub reach : in_reach epoch ≡ true
  pub system : ℕ
  pub legal : system_of n ≡ Some system
  pub some : none_there s n ≡ false
  pub whole : complete s n system ≡ true
  pub degree : ℕ
  pub announced : G.degree s n system ≡ Some degree
  pub kinds : all_numeric s n system ≡ true
  pub counts : well_counted s n system degree ≡ true
  pub evaluation :
      o ≡ evaluated (elements s n) epoch degree (angles s n system) (list s n W.NutPrecRa) (list s n W.NutPrecDec) (list s n W.NutPrecPm)

-- the same of the built-in table: it has a row for the code
pub record HasRow (n : ℕ) (epoch : Float) (o : Orientation) : Type 0 where
  pub reach : in_reach epoch ≡ true
  pub system : ℕ
  pub legal : system_of n ≡ Some system
  pub row : Elements
  pub listed : row_of n ≡ Some row
  pub evaluation : o ≡ row_evaluated n row epoch

-- "Radii are the source's three values", and from a pool "must each be greater than 0 as doubles": of the texts of a pool
pub record HasRadii (s : Pool) (n : ℕ) (x : Axes) : Type 0 where
  pub system : ℕ
  pub legal : system_of n ≡ Some system
  pub some : there s n W.Radii ≡ true
  pub kinds : numeric s n W.Radii ≡ true
  pub three : list s n W.Radii ≡ x.a ∷ x.b ∷ x.c ∷ []
  pub above : all_positive x ≡ true

-- "exactly when", both ways, of any build
pub record Demand2 (b : Build) : Type 0 where
  pub texts : (label : ℕ) (bytes m : List ℕ) → (accepted (b.answer (load label bytes) m) ≡ true) ↔ Admissible LONGEST_LOAD label bytes m
  -- "Demands 2 and 3 count a load at its closing"
  pub texts_in_parts :
      (label : ℕ) (parts : List (List ℕ)) (m : List ℕ) → are_bytes (joined parts) ≡ true → opens m ≡ false
      → (accepted (b.answer C.close_load (fed_under b label parts m)) ≡ true) ↔ Admissible MOST label (joined parts) m
  pub pool_orientations :
      (m : List ℕ) (n : ℕ) (epoch : Float) (o : Orientation)
      → (b.answer (orientation S.Pool n epoch) m ≡ oriented (Ok o)) ↔ ((sound m ≡ true) × HasElements (decode m) n epoch o)
  pub table_orientations :
      (m : List ℕ) (n : ℕ) (epoch : Float) (o : Orientation)
      → (b.answer (orientation S.Builtin n epoch) m ≡ oriented (Ok o)) ↔ HasRow n epoch o
  pub pool_radii :
      (m : List ℕ) (n : ℕ) (x : Axes)
      → (b.answer (radii S.Pool n) m ≡ measured (Ok x)) ↔ ((sound m ≡ true) × HasRadii (decode m) n x)
  pub table_radii : (m : List ℕ) (n : ℕ) (x : Axes) → (b.answer (radii S.Builtin n) m ≡ measured (Ok x)) ↔ (size_of n ≡ Some x)
  pub ranges :
      (source : Source) (m : List ℕ) (n : ℕ) (epoch : Float) (o : Orientation)
      → b.answer (orientation source n epoch) m ≡ oriented (Ok o) → InRange o

-- "every held value finite and of size below 2^200, so that no evaluation overflows": no number of an orientation that is given, and no
-- result on the way to it, by the elements that the source has for the body
pub record NoOverflow (b : Build) : Type 0 where
  pub answers :
      (source : Source) (m : List ℕ) (n : ℕ) (epoch : Float) (o : Orientation)
      → b.answer (orientation source n epoch) m ≡ oriented (Ok o) → Finite o
  pub pools :
      (m : List ℕ) (n system degree : ℕ) (epoch : Float) (o : Orientation)
      → b.answer (orientation S.Pool n epoch) m ≡ oriented (Ok o) → system_of n ≡ Some system → G.degree (decode m) n system ≡ Some degree
      → NeverOverflows (elements (decode m) n) epoch degree (angles (decode m) n system)
      (list (decode m) n W.NutPrecRa) (list (decode m) n W.NutPrecDec) (list (decode m) n W.NutPrecPm)
  pub tables :
      (m : List ℕ) (n : ℕ) (epoch : Float) (o : Orientation) (row : Elements)
      → b.answer (orientation S.Builtin n epoch) m ≡ oriented (Ok o) → row_of n ≡ Some row
      → NeverOverflows row epoch LINEAR (neptunes n neptune_angle) (neptunes n neptune_ra) (neptunes n neptune_dec) (neptunes n neptune_pm)

-- "A zero in a text made a flat globe": every radius that is given, by either source, is greater than 0, and no infinity

pub record Above0 (radius : Float) : Type 0 where
  pub above : positive radius ≡ true
  pub below : finite radius ≡ true

abbrev pub RadiiAbove0 : Build → Type 0
RadiiAbove0 b =
    (source : Source) (m : List ℕ) (n : ℕ) (x : Axes) → b.answer (radii source n) m ≡ measured (Ok x) → Above0 x.a × Above0 x.b × Above0 x.c

-- "the two are never blended, since a pole of one report with a meridian of another is an orientation nobody published."

-- all that is wanted of a body is there in the texts of a pool, and the orientation is that of these elements
pub record OfPool (s : Pool) (n : ℕ) (epoch : Float) (o : Orientation) : Type 0 where
  pub system : ℕ
  pub legal : system_of n ≡ Some system
  pub whole : complete s n system ≡ true
  pub degree : ℕ
  pub announced : G.degree s n system ≡ Some degree
  pub evaluation :
      o ≡ evaluated (elements s n) epoch degree (angles s n system) (list s n W.NutPrecRa) (list s n W.NutPrecDec) (list s n W.NutPrecPm)

-- the table has a row for it, and the orientation is that of the row
pub record OfTable (n : ℕ) (epoch : Float) (o : Orientation) : Type 0 where
  pub row : Elements
  pub listed : row_of n ≡ Some row
  pub evaluation : o ≡ row_evaluated n row epoch

-- the call is a query, or no text is open in either memory
abbrev pub AlikeOpen : Call → (m m' : List ℕ) → Type 0
AlikeOpen c m m' = (query c ≡ true) ⊎ ((opens m ≡ false) × (opens m' ≡ false))

-- what a pool gives is all of its texts, and what the table gives is all of the table, whatever memory is lent
pub record NeverBlended (b : Build) : Type 0 where
  pub pool_orientations :
      (m : List ℕ) (n : ℕ) (epoch : Float) (o : Orientation)
      → b.answer (orientation S.Pool n epoch) m ≡ oriented (Ok o) → OfPool (decode m) n epoch o
  pub table_orientations :
      (m : List ℕ) (n : ℕ) (epoch : Float) (o : Orientation)
      → b.answer (orientation S.Builtin n epoch) m ≡ oriented (Ok o) → OfTable n epoch o
  pub pool_radii :
      (m : List ℕ) (n : ℕ) (x : Axes)
      → b.answer (radii S.Pool n) m ≡ measured (Ok x) → list (decode m) n W.Radii ≡ x.a ∷ x.b ∷ x.c ∷ []
  pub table_radii : (m : List ℕ) (n : ℕ) (x : Axes) → b.answer (radii S.Builtin n) m ≡ measured (Ok x) → size_of n ≡ Some x
  pub tables :
      (m m' : List ℕ) (n : ℕ) (epoch : Float) → b.answer (orientation S.Builtin n epoch) m ≡ b.answer (orientation S.Builtin n epoch) m'
  pub sizes : (m m' : List ℕ) (n : ℕ) → b.answer (radii S.Builtin n) m ≡ b.answer (radii S.Builtin n) m'
  pub pools : (c : Call) (m m' : List ℕ) → sound m ≡ true → sound m' ≡ true → decode m ≡ decode m' → AlikeOpen c m m' → b.answer c m ≡ b.answer c m'
