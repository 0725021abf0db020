-- "Useless builds that have to be caught": each kind as a definition, and the claim that none meets the demand named for it. Definitions
-- only.
use Rattle.std.specs.Prelude.{ℕ, ◌≤◌, ◌<◌, ◌≡◌, Bool, true, false, List, [], ◌++◌, Float, length, if◌then◌else◌, Some, Ok}
use Rattle.refusal.specs.declared.Refusal.{Refusal}
use Rattle.rotation.specs.Evaluation.{evaluated}
use Rattle.rotation.specs.Table.{row_of}
use Rattle.rotation.specs.declared.elements.Polynomial.{Polynomial}
use Rattle.rotation.specs.declared.elements.Elements.{Elements}
use Rattle.rotation.specs.declared.matrix.Orientation.{Orientation}
use Rattle.rotation.specs.declared.table.Axes.{Axes}
use Rattle.text.specs.Columns.{column_of}
use Rattle.text.specs.Text.{refused, read_text}
use Rattle.value.specs.declared.faults.Fault.{Fault}
use Rattle.layout.specs.State.{Pool}
use Rattle.layout.specs.Memory.{decode, opens}
use Rattle.feeding.specs.Parts.{joined}
use Rattle.layout.specs.Damage.{sound}
use Rattle.layout.specs.Limits.{LONGEST_LOAD}
use Rattle.pool.specs.Replies.{Counted, refusing_at}
use Rattle.pool.specs.Held.{held}
use Rattle.loading.specs.Load.{text_of}
use Rattle.pool.specs.Totals.{counts}
use Rattle.wanted.specs.Elements.{there, all_there, elements, angles, list}
use Rattle.wanted.specs.declared.name.Wanted.TheVariants as W
use Rattle.globe.specs.declared.source.Source.{Source}
use Rattle.globe.specs.declared.source.Source.TheVariants as S
use Rattle.promises.specs.Calls.{Call, load, remove, totals, orientation, radii, replied, counted, oriented, measured, query, Build, accepted}
use Rattle.promises.specs.Demands.{Contracts, Demand2, NeverBlended}
use Rattle.promises.specs.Histories.{Loaded, in_parts, coming, loading, after, fed_under, Fresh, Typed, AllAccepted, texts}
use Rattle.promises.specs.Demand3.{Demand3}

-- ---- demand 2

-- "one refusing every text or epoch"
abbrev pub RefusesEveryText : Build → Type 0
RefusesEveryText b = (label : ℕ) (bytes m : List ℕ) → accepted (b.answer (load label bytes) m) ≡ false

abbrev pub RefusesEveryEpoch : Build → Type 0
RefusesEveryEpoch b = (source : Source) (n : ℕ) (epoch : Float) (m : List ℕ) → accepted (b.answer (orientation source n epoch) m) ≡ false

-- "one with a constant orientation": one for all, or for each source and body one at every epoch, so that the shell never turns
pub record ConstantOrientation (b : Build) : Type 0 where
  pub single : Orientation
  pub always :
      (source : Source) (n : ℕ) (epoch : Float) (m : List ℕ) (o : Orientation)
      → b.answer (orientation source n epoch) m ≡ oriented (Ok o) → o ≡ single

abbrev pub NeverTurns : Build → Type 0
NeverTurns b =
    (source : Source) (n : ℕ) (epoch epoch' : Float) (m : List ℕ) (o o' : Orientation)
    → b.answer (orientation source n epoch) m ≡ oriented (Ok o) → b.answer (orientation source n epoch') m ≡ oriented (Ok o') → o ≡ o'

-- "one with constant radii"
pub record ConstantRadii (b : Build) : Type 0 where
  pub single : Axes
  pub always : (source : Source) (n : ℕ) (m : List ℕ) (x : Axes) → b.answer (radii source n) m ≡ measured (Ok x) → x ≡ single

-- one that refuses every load where a text is held
abbrev pub RefusesEverySecond : Build → Type 0
RefusesEverySecond b = (label : ℕ) (bytes m : List ℕ) → 0 < length (decode m) → accepted (b.answer (load label bytes) m) ≡ false

-- ---- "never blended"

-- what a pool lacks of a body's elements, from the table's row
abbrev pub from_row : Bool → (polynomial row : Polynomial) → Polynomial
from_row there p row = if there then p else row

abbrev pub blended : Pool → ℕ → (row : Elements) → Elements
blended s n row =
    record {
      ra = from_row (there s n W.PoleRa) (elements s n).ra row.ra;
      dec = from_row (there s n W.PoleDec) (elements s n).dec row.dec;
      pm = from_row (there s n W.Pm) (elements s n).pm row.pm;
    }

-- a pool that lacks some of a body's elements answers with the table's for them
pub record Blends (b : Build) : Type 0 where
  pub m : List ℕ
  pub n : ℕ
  pub epoch : Float
  pub lacking : all_there (decode m) n ≡ false
  pub row : Elements
  pub listed : row_of n ≡ Some row
  pub system : ℕ
  pub degree : ℕ
  pub given : Orientation
  pub evaluation :
      given ≡ evaluated (blended (decode m) n row) epoch degree (angles (decode m) n system)
      (list (decode m) n W.NutPrecRa) (list (decode m) n W.NutPrecDec) (list (decode m) n W.NutPrecPm)
  pub gives : b.answer (orientation S.Pool n epoch) m ≡ oriented (Ok given)

-- ---- demand 3

-- whatever is asked next, the two memories answer alike
abbrev pub Alike : Build → (m m' : List ℕ) → Type 0
Alike b m m' = (c : Call) → b.answer c m ≡ b.answer c m'

-- "a load that stores nothing": it says yes, and every answer is as before
pub record StoresNothing (b : Build) : Type 0 where
  pub m : List ℕ
  pub empty : Fresh b m
  pub text : Loaded
  pub bytes : Typed (loading text)
  pub yes : AllAccepted b (loading text) m
  pub nothing : Alike b (after b (loading text) m) m

-- "a pool that heeds the first load only": a second one is accepted, and every answer is as before it
pub record HeedsFirstOnly (b : Build) : Type 0 where
  pub m : List ℕ
  pub empty : Fresh b m
  pub first : Loaded
  pub second : Loaded
  pub bytes : Typed (loading first ++ loading second)
  pub yes : AllAccepted b (loading first) m
  pub again : AllAccepted b (loading second) (after b (loading first) m)
  pub nothing : Alike b (after b (loading second) (after b (loading first) m)) (after b (loading first) m)

-- "a removal that only says yes": every answer is as before it
pub record OnlySaysYes (b : Build) : Type 0 where
  pub m : List ℕ
  pub empty : Fresh b m
  pub text : Loaded
  pub bytes : Typed (loading text)
  pub held : AllAccepted b (loading text) m
  pub yes : accepted (b.answer (remove text.label) (after b (loading text) m)) ≡ true
  pub nothing : Alike b (b.memory (remove text.label) (after b (loading text) m)) (after b (loading text) m)

-- one that forgets an opening's parts: a text that came in parts is accepted, and every answer is as if no part had come
pub record ForgetsParts (b : Build) : Type 0 where
  pub m : List ℕ
  pub empty : Fresh b m
  pub label : ℕ
  pub parts : List (List ℕ)
  pub bytes : Typed (coming label (in_parts parts))
  pub yes : AllAccepted b (coming label (in_parts parts)) m
  pub some : 0 < length (text_of label (joined parts)).body
  pub forgotten : Alike b (after b (coming label (in_parts parts)) m) (after b (coming label (in_parts [])) m)

-- one that shows an open text to queries: they answer as if it were held already
pub record ShowsOpen (b : Build) : Type 0 where
  pub m : List ℕ
  pub empty : Fresh b m
  pub label : ℕ
  pub parts : List (List ℕ)
  pub bytes : Typed (coming label (in_parts parts))
  pub yes : AllAccepted b (coming label (in_parts parts)) m
  pub shown : (c : Call) → query c ≡ true → b.answer c (fed_under b label parts m) ≡ b.answer c (after b (coming label (in_parts parts)) m)

-- "totals not those of the held texts"
pub record OtherTotals (b : Build) : Type 0 where
  pub m : List ℕ
  pub empty : Fresh b m
  pub history : List Call
  pub typed : Typed history
  pub told : Counted
  pub tells : b.answer totals (after b history m) ≡ counted told
  pub others : told ≡ counts (texts b history m) → ⊥

-- ---- demand 1

-- "a load answering an invented line", or an invented column: others than those of the text's first fault
pub record InventedLine (b : Build) : Type 0 where
  pub label : ℕ
  pub bytes : List ℕ
  pub m : List ℕ
  pub undamaged : sound m ≡ true
  pub none_open : opens m ≡ false
  pub free : held label (decode m) ≡ false
  pub short : length bytes ≤ LONGEST_LOAD
  pub fault : Fault
  pub line : ℕ
  pub place : ℕ
  pub faulty : read_text bytes ≡ refused fault line place
  pub q : Refusal
  pub told : ℕ
  pub column : ℕ
  pub tells : b.answer (load label bytes) m ≡ replied (refusing_at q told column)
  pub invented : told ≡ line → column ≡ column_of place → ⊥

-- ---- the claim

pub record Caught : Type 0 where
  pub refuses_every_text : (b : Build) → Demand2 b → RefusesEveryText b → ⊥
  pub refuses_every_epoch : (b : Build) → Demand2 b → RefusesEveryEpoch b → ⊥
  pub constant_orientation : (b : Build) → Demand2 b → ConstantOrientation b → ⊥
  pub never_turns : (b : Build) → Demand2 b → NeverTurns b → ⊥
  pub constant_radii : (b : Build) → Demand2 b → ConstantRadii b → ⊥
  pub refuses_every_second : (b : Build) → Demand2 b → RefusesEverySecond b → ⊥
  pub blends : (b : Build) → NeverBlended b → Blends b → ⊥
  pub stores_nothing : (b : Build) → Demand3 b → StoresNothing b → ⊥
  pub heeds_first_only : (b : Build) → Demand3 b → HeedsFirstOnly b → ⊥
  pub only_says_yes : (b : Build) → Demand3 b → OnlySaysYes b → ⊥
  pub forgets_parts : (b : Build) → Demand3 b → ForgetsParts b → ⊥
  pub shows_open : (b : Build) → Demand3 b → ShowsOpen b → ⊥
  pub other_totals : (b : Build) → Demand3 b → OtherTotals b → ⊥
  pub invented_line : (b : Build) → Contracts b → InventedLine b → ⊥
