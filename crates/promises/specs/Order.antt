-- "Order: 15 first; then by call 1, 2, the first faulty line (in it 3, then 4, then whichever of 5 and 6 starts at the earlier byte), 7; 8;
-- 13, 14; 9, 10, 11, 12. Fifteen is not checked where the built-in source is named." "16 MIXED KIND .. stands just before 12"; "both fetches
-- ask 13, 16, 14 in turn"; "22 TEXT OPEN .. stands after 15 (opening then gives 1); feeding, closing or dropping with none open is 8"; "23 BAD DEGREE .. stands after 11 and before 16"; "24 BAD RADIUS, for radii only, stands after 12". Each refusal is
-- given where its condition holds and none does that is asked before it. Definitions only.
use Rattle.std.specs.Prelude.{ℕ, ◌≤◌, ◌<◌, ◌≡◌, Bool, true, false, List, eqb, Float, length, Some, None}
use Rattle.refusal.specs.Numbers.{number_of}
use Rattle.refusal.specs.declared.Refusal.{Refusal}
use Rattle.refusal.specs.declared.Refusal.TheVariants as Q
use Rattle.rotation.specs.Epochs.{in_reach}
use Rattle.rotation.specs.Codes.{system_of}
use Rattle.rotation.specs.Table.{row_of, size_of}
use Rattle.value.specs.Faults.{refusal_of}
use Rattle.statement.specs.Statements.{Event}
use Rattle.text.specs.Text.{fine, refused, read_text}
use Rattle.value.specs.declared.faults.Fault.{Fault}
use Rattle.layout.specs.Limits.{room, LONGEST_LOAD}
use Rattle.layout.specs.Memory.{decode, opens}
use Rattle.feeding.specs.Parts.{MOST, joined}
use Rattle.layout.specs.Damage.{sized, sound}
use Rattle.plain.specs.Bytes.{within}
use Rattle.variables.specs.Variables.{variable, present, all_numbers, all_strings}
use Rattle.variables.specs.Spelled.{string_of}
use Rattle.pool.specs.Held.{held}
use Rattle.loading.specs.Load.{text_of, with}
use Rattle.intake.specs.Calls.{are_bytes}
use Rattle.wanted.specs.Elements.{there, numeric, none_there, complete, all_numeric, well_counted, list}
use Rattle.wanted.specs.declared.name.Wanted.TheVariants as W
use Rattle.degree.specs.Degree.{degree}
use Rattle.globe.specs.Radii.{axes, all_positive}
use Rattle.globe.specs.declared.source.Source.TheVariants as S
use Rattle.promises.specs.Calls as C
use Rattle.promises.specs.Calls.{Call, Build, number, line}
use Rattle.promises.specs.Histories.{fed_under}

-- the call is refused with this refusal's number
abbrev pub Refuses : Build → Call → (m : List ℕ) → Refusal → Type 0
Refuses b c m q = number (b.answer c m) ≡ number_of q

-- "every call that uses the pool; make empty for the size alone"
abbrev pub uses_pool : Call → Bool
uses_pool C.make_empty = false
uses_pool (C.load label bytes) = true
uses_pool (C.open_load label) = true
uses_pool (C.feed_part part) = true
uses_pool C.close_load = true
uses_pool C.drop_load = true
uses_pool (C.remove label) = true
uses_pool C.clear = true
uses_pool (C.fetch name buffer) = true
uses_pool (C.fetch_string name place buffer) = true
uses_pool C.totals = true
uses_pool (C.orientation S.Pool code epoch) = true
uses_pool (C.orientation S.Builtin code epoch) = false
uses_pool (C.radii S.Pool code) = true
uses_pool (C.radii S.Builtin code) = false

-- "22 TEXT OPEN, for load, opening, removal and clear while one is open"
abbrev pub wants_none_open : Call → Bool
wants_none_open (C.load label bytes) = true
wants_none_open (C.open_load label) = true
wants_none_open (C.remove label) = true
wants_none_open C.clear = true
wants_none_open C.make_empty = false
wants_none_open (C.feed_part part) = false
wants_none_open C.close_load = false
wants_none_open C.drop_load = false
wants_none_open (C.fetch name buffer) = false
wants_none_open (C.fetch_string name place buffer) = false
wants_none_open C.totals = false
wants_none_open (C.orientation source code epoch) = false
wants_none_open (C.radii source code) = false

-- "feeding, closing or dropping with none open is 8"
abbrev pub wants_open : Call → Bool
wants_open (C.feed_part part) = true
wants_open C.close_load = true
wants_open C.drop_load = true
wants_open (C.load label bytes) = false
wants_open (C.open_load label) = false
wants_open (C.remove label) = false
wants_open C.clear = false
wants_open C.make_empty = false
wants_open (C.fetch name buffer) = false
wants_open (C.fetch_string name place buffer) = false
wants_open C.totals = false
wants_open (C.orientation source code epoch) = false
wants_open (C.radii source code) = false

-- ---- of an undamaged pool

-- at closing, the text having come in these parts: 2, the first fault, 7
pub record CloseOrder (b : Build) (label : ℕ) (parts : List (List ℕ)) (m : List ℕ) : Type 0 where
  pub too_long : MOST < length (joined parts) → Refuses b C.close_load (fed_under b label parts m) Q.TextTooLong
  pub faulty :
      (fault : Fault) (n place : ℕ) → length (joined parts) ≤ MOST → read_text (joined parts) ≡ refused fault n place
      → Refuses b C.close_load (fed_under b label parts m) (refusal_of fault) × (line (b.answer C.close_load (fed_under b label parts m)) ≡ n)
  pub no_room :
      (es : List Event) → length (joined parts) ≤ MOST → read_text (joined parts) ≡ fine es
      → room (with (decode m) (text_of label (joined parts))) ≡ false → Refuses b C.close_load (fed_under b label parts m) Q.NoRoom

pub record LoadOrder (b : Build) (label : ℕ) (bytes m : List ℕ) : Type 0 where
  pub label_held : held label (decode m) ≡ true → Refuses b (C.load label bytes) m Q.LabelHeld
  pub too_long : held label (decode m) ≡ false → LONGEST_LOAD < length bytes → Refuses b (C.load label bytes) m Q.TextTooLong
  pub faulty :
      (fault : Fault) (n place : ℕ) → held label (decode m) ≡ false → length bytes ≤ LONGEST_LOAD → read_text bytes ≡ refused fault n place
      → Refuses b (C.load label bytes) m (refusal_of fault) × (line (b.answer (C.load label bytes) m) ≡ n)
  pub no_room :
      (es : List Event) → held label (decode m) ≡ false → length bytes ≤ LONGEST_LOAD → read_text bytes ≡ fine es
      → room (with (decode m) (text_of label bytes)) ≡ false → Refuses b (C.load label bytes) m Q.NoRoom

pub record FetchOrder (b : Build) (name : List ℕ) (buffer : List Float) (m : List ℕ) : Type 0 where
  pub no_variable : present name (decode m) ≡ false → Refuses b (C.fetch name buffer) m Q.NoVariable
  pub mixed_kind : present name (decode m) ≡ true → all_numbers (variable name (decode m)) ≡ false → Refuses b (C.fetch name buffer) m Q.MixedKind
  pub short_buffer :
      present name (decode m) ≡ true → all_numbers (variable name (decode m)) ≡ true → length buffer < length (variable name (decode m))
      → Refuses b (C.fetch name buffer) m Q.ShortBuffer

-- "place 0 or past the end is 13"
pub record StringOrder (b : Build) (name : List ℕ) (place : ℕ) (buffer m : List ℕ) : Type 0 where
  pub no_variable : within 1 (length (variable name (decode m))) place ≡ false → Refuses b (C.fetch_string name place buffer) m Q.NoVariable
  pub mixed_kind :
      within 1 (length (variable name (decode m))) place ≡ true → all_strings (variable name (decode m)) ≡ false
      → Refuses b (C.fetch_string name place buffer) m Q.MixedKind
  pub short_buffer :
      within 1 (length (variable name (decode m))) place ≡ true → all_strings (variable name (decode m)) ≡ true
      → length buffer < length (string_of place (variable name (decode m))) → Refuses b (C.fetch_string name place buffer) m Q.ShortBuffer

pub record OrientationOrder (b : Build) (n : ℕ) (epoch : Float) (m : List ℕ) : Type 0 where
  pub epochs : in_reach epoch ≡ false → Refuses b (C.orientation S.Pool n epoch) m Q.Epoch
  pub no_code : in_reach epoch ≡ true → system_of n ≡ None → Refuses b (C.orientation S.Pool n epoch) m Q.UnknownBody
  pub no_body :
      (k : ℕ) → in_reach epoch ≡ true → system_of n ≡ Some k → none_there (decode m) n ≡ true → Refuses b (C.orientation S.Pool n epoch) m Q.UnknownBody
  pub incomplete :
      (k : ℕ) → in_reach epoch ≡ true → system_of n ≡ Some k → none_there (decode m) n ≡ false → complete (decode m) n k ≡ false
      → Refuses b (C.orientation S.Pool n epoch) m Q.Incomplete
  pub bad_degree :
      (k : ℕ) → in_reach epoch ≡ true → system_of n ≡ Some k → none_there (decode m) n ≡ false → complete (decode m) n k ≡ true
      → degree (decode m) n k ≡ None → Refuses b (C.orientation S.Pool n epoch) m Q.BadDegree
  pub mixed_kind :
      (k d : ℕ) → in_reach epoch ≡ true → system_of n ≡ Some k → none_there (decode m) n ≡ false → complete (decode m) n k ≡ true
      → degree (decode m) n k ≡ Some d → all_numeric (decode m) n k ≡ false → Refuses b (C.orientation S.Pool n epoch) m Q.MixedKind
  pub wrong_count :
      (k d : ℕ) → in_reach epoch ≡ true → system_of n ≡ Some k → none_there (decode m) n ≡ false
      → complete (decode m) n k ≡ true → degree (decode m) n k ≡ Some d → all_numeric (decode m) n k ≡ true → well_counted (decode m) n k d ≡ false
      → Refuses b (C.orientation S.Pool n epoch) m Q.WrongCount

pub record RadiiOrder (b : Build) (n : ℕ) (m : List ℕ) : Type 0 where
  pub no_code : system_of n ≡ None → Refuses b (C.radii S.Pool n) m Q.UnknownBody
  pub no_body : (k : ℕ) → system_of n ≡ Some k → there (decode m) n W.Radii ≡ false → Refuses b (C.radii S.Pool n) m Q.UnknownBody
  pub mixed_kind :
      (k : ℕ) → system_of n ≡ Some k → there (decode m) n W.Radii ≡ true → numeric (decode m) n W.Radii ≡ false
      → Refuses b (C.radii S.Pool n) m Q.MixedKind
  pub wrong_count :
      (k : ℕ) → system_of n ≡ Some k → there (decode m) n W.Radii ≡ true → numeric (decode m) n W.Radii ≡ true → eqb (length (list (decode m) n W.Radii)) 3 ≡ false
      → Refuses b (C.radii S.Pool n) m Q.WrongCount
  pub bad_radius :
      (k : ℕ) → system_of n ≡ Some k → there (decode m) n W.Radii ≡ true → numeric (decode m) n W.Radii ≡ true → eqb (length (list (decode m) n W.Radii)) 3 ≡ true
      → all_positive (axes (list (decode m) n W.Radii)) ≡ false → Refuses b (C.radii S.Pool n) m Q.BadRadius

-- ---- the claim

pub record InOrder (b : Build) : Type 0 where
  pub damaged : (c : Call) (m : List ℕ) → uses_pool c ≡ true → sound m ≡ false → Refuses b c m Q.DamagedPool
  pub other_size : (m : List ℕ) → sized m ≡ false → Refuses b C.make_empty m Q.DamagedPool
  pub text_open : (c : Call) (m : List ℕ) → wants_none_open c ≡ true → sound m ≡ true → opens m ≡ true → Refuses b c m Q.TextOpen
  pub none_open : (c : Call) (m : List ℕ) → wants_open c ≡ true → sound m ≡ true → opens m ≡ false → Refuses b c m Q.NotHeld
  pub loads : (label : ℕ) (bytes m : List ℕ) → sound m ≡ true → opens m ≡ false → LoadOrder b label bytes m
  pub openings :
      (label : ℕ) (m : List ℕ) → sound m ≡ true → opens m ≡ false → held label (decode m) ≡ true → Refuses b (C.open_load label) m Q.LabelHeld
  pub closings :
      (label : ℕ) (parts : List (List ℕ)) (m : List ℕ) → are_bytes (joined parts) ≡ true → sound m ≡ true → opens m ≡ false
      → held label (decode m) ≡ false → CloseOrder b label parts m
  pub not_held :
      (label : ℕ) (m : List ℕ) → sound m ≡ true → opens m ≡ false → held label (decode m) ≡ false → Refuses b (C.remove label) m Q.NotHeld
  pub fetches : (name : List ℕ) (buffer : List Float) (m : List ℕ) → sound m ≡ true → FetchOrder b name buffer m
  pub strings : (name : List ℕ) (place : ℕ) (buffer m : List ℕ) → sound m ≡ true → StringOrder b name place buffer m
  pub orientations : (n : ℕ) (epoch : Float) (m : List ℕ) → sound m ≡ true → OrientationOrder b n epoch m
  pub radii : (n : ℕ) (m : List ℕ) → sound m ≡ true → RadiiOrder b n m
  pub table_epochs : (n : ℕ) (epoch : Float) (m : List ℕ) → in_reach epoch ≡ false → Refuses b (C.orientation S.Builtin n epoch) m Q.Epoch
  pub table_rows :
      (n : ℕ) (epoch : Float) (m : List ℕ) → in_reach epoch ≡ true → row_of n ≡ None → Refuses b (C.orientation S.Builtin n epoch) m Q.UnknownBody
  pub table_sizes : (n : ℕ) (m : List ℕ) → size_of n ≡ None → Refuses b (C.radii S.Builtin n) m Q.UnknownBody
