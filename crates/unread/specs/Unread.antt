-- "loading, removing or re-ordering held texts that contain no statement of any name a given orientation or radii query may read, its system's
-- angles and degree included, leaves that query's answer the same, its refusals too, as long as the other held texts keep their order and the
-- pool isn't damaged." The names are those of crate `reads`. Of any build. Definitions only.
use Rattle.std.specs.Prelude.{ℕ, ◌≡◌, Bool, true, false, List, [], ◌∷◌, ◌++◌, eqb, Float, if◌then◌else◌, Result}
use Rattle.plain.specs.Lists.{equal, Each}
use Rattle.rotation.specs.Epochs.{in_reach}
use Rattle.statement.specs.Statements.{Statement}
use Rattle.layout.specs.State.{Text, Pool, program}
use Rattle.layout.specs.Memory.{decode, opens}
use Rattle.layout.specs.Damage.{sound}
use Rattle.variables.specs.Variables.{has, any}
use Rattle.loading.specs.Load.{text_of}
use Rattle.feeding.specs.Parts.{joined}
use Rattle.intake.specs.Calls.{are_bytes}
use Rattle.globe.specs.declared.source.Source.{Source}
use Rattle.promises.specs.Calls as C
use Rattle.promises.specs.Calls.{Call, Build}
use Rattle.promises.specs.Histories.{in_parts, coming, after, fed_under, Fresh, Typed, texts}
use Rattle.drive.specs.declared.answer.Motion.{Motion}
use Rattle.drive.specs.Calls.{Places, Steps}
use Rattle.refusal.specs.declared.Refusal.{Refusal}
use Rattle.reads.specs.Names.{Name, Query, orientation_of, radii_of, names}

-- "a given orientation or radii query", as a call
abbrev pub call : Query → Call
call (orientation_of source code epoch) = C.orientation source code epoch
call (radii_of source code) = C.radii source code

-- ---- texts that a query may read

-- the statement has one of the names
unfoldable pub has_one : List Name → Statement → Bool
has_one [] s = false
has_one (name ∷ ns) s = if has name s then true else has_one ns s

-- the text contains a statement of one of the names
unfoldable pub contains : List Name → Text → Bool
unfolding any has_one
contains ns t = any (has_one ns) t.body

-- "the other held texts": those that do, in their order
unfoldable pub containing : List Name → Pool → Pool
unfolding contains
containing ns [] = []
containing ns (t ∷ ts) = if contains ns t then t ∷ containing ns ts else containing ns ts

-- the text under a label, where one is held, contains a statement of one of the names
unfoldable pub contains_under : List Name → ℕ → Pool → Bool
unfolding contains
contains_under ns label [] = false
contains_under ns label (t ∷ ts) = if eqb t.label label then contains ns t else contains_under ns label ts

-- ---- the claims

-- the texts less those without a statement of its names are the same texts in the same order
abbrev pub Alike : Query → (s s' : Pool) → Type 0
Alike q s s' = containing (names q) s ≡ containing (names q) s'

-- two undamaged pools, also while a text is open in either, that hold such texts answer a query alike, "its refusals too"
abbrev pub Independent : Build → Type 0
Independent b =
    (q : Query) (m m' : List ℕ) → sound m ≡ true → sound m' ≡ true → Alike q (decode m) (decode m')
    → b.answer (call q) m ≡ b.answer (call q) m'

-- "loading .. held texts that contain no statement of any name a given .. query may read": whether the load is accepted or refused
abbrev pub LoadMovesNothing : Build → Type 0
LoadMovesNothing b =
    (q : Query) (m : List ℕ) → sound m ≡ true → (label : ℕ) (bytes : List ℕ) → contains (names q) (text_of label bytes) ≡ false
    → b.answer (call q) (b.memory (C.load label bytes) m) ≡ b.answer (call q) m

-- the same of a text in parts
pub record PartsMoveNothing (b : Build) : Type 0 where
  -- opened, fed and closed where none is open, accepted or refused at any of these calls
  pub whole :
      (q : Query) (m : List ℕ) → sound m ≡ true → opens m ≡ false → (label : ℕ) (parts : List (List ℕ)) → are_bytes (joined parts) ≡ true
      → contains (names q) (text_of label (joined parts)) ≡ false
      → b.answer (call q) (after b (coming label (in_parts parts)) m) ≡ b.answer (call q) m
  -- and at every moment in between, whatever the text contains
  pub between :
      (q : Query) (m : List ℕ) → sound m ≡ true → (label : ℕ) (parts : List (List ℕ)) → are_bytes (joined parts) ≡ true
      → b.answer (call q) (fed_under b label parts m) ≡ b.answer (call q) m
  -- dropped, it leaves nothing
  pub dropped : (q : Query) (m : List ℕ) → sound m ≡ true → b.answer (call q) (b.memory C.drop_load m) ≡ b.answer (call q) m

-- "removing"
abbrev pub RemovalMovesNothing : Build → Type 0
RemovalMovesNothing b =
    (q : Query) (m : List ℕ) → sound m ≡ true → (label : ℕ) → contains_under (names q) label (decode m) ≡ false
    → b.answer (call q) (b.memory (C.remove label) m) ≡ b.answer (call q) m

-- "re-ordering" by calls: such a text taken out and brought again, which puts it last
pub record ReloadMovesNothing (b : Build) : Type 0 where
  pub loaded :
      (q : Query) (m : List ℕ) → sound m ≡ true → (label : ℕ) (bytes : List ℕ) → contains_under (names q) label (decode m) ≡ false
      → contains (names q) (text_of label bytes) ≡ false
      → b.answer (call q) (b.memory (C.load label bytes) (b.memory (C.remove label) m)) ≡ b.answer (call q) m
  -- in parts, where none is open
  pub fed :
      (q : Query) (m : List ℕ) → sound m ≡ true → (label : ℕ) (parts : List (List ℕ)) → contains_under (names q) label (decode m) ≡ false
      → are_bytes (joined parts) ≡ true → opens m ≡ false → contains (names q) (text_of label (joined parts)) ≡ false
      → b.answer (call q) (after b (coming label (in_parts parts)) (b.memory (C.remove label) m)) ≡ b.answer (call q) m

-- "re-ordering": such a text from any place to any other
abbrev pub MovingMovesNothing : Build → Type 0
MovingMovesNothing b =
    (q : Query) (m m' : List ℕ) → sound m ≡ true → sound m' ≡ true → (front middle back : Pool) (t : Text) → contains (names q) t ≡ false
    → decode m ≡ front ++ (t ∷ (middle ++ back)) → decode m' ≡ front ++ (middle ++ (t ∷ back))
    → b.answer (call q) m ≡ b.answer (call q) m'

-- after any two sequences of calls on pools that were just made empty, by the texts that they hold; they may end with a text open
abbrev pub IndependentAfter : Build → Type 0
IndependentAfter b =
    (q : Query) (m m' : List ℕ) → Fresh b m → Fresh b m' → (history history' : List Call) → Typed history → Typed history'
    → Alike q (texts b history m) (texts b history' m')
    → b.answer (call q) (after b history m) ≡ b.answer (call q) (after b history' m')

-- ---- "Which names a query may read is listed in docs/ and proved to be all of them"

-- the statements without the name
unfoldable pub others : Name → List Statement → List Statement
others name [] = []
others name (s ∷ ss) = if has name s then others name ss else (s ∷ others name ss)

-- a name counts: two undamaged pools differ in its statements alone and answer differently
pub record Counts (b : Build) (q : Query) (name : Name) : Type 0 where
  pub one : List ℕ
  pub other : List ℕ
  pub undamaged : sound one ≡ true
  pub other_undamaged : sound other ≡ true
  pub alike : others name (program (decode one)) ≡ others name (program (decode other))
  pub differs : b.answer (call q) one ≡ b.answer (call q) other → ⊥

unfoldable pub on_list : Name → List Name → Bool
unfolding equal
on_list name [] = false
on_list name (n ∷ ns) = if equal name n then true else on_list name ns

-- no other name counts
abbrev pub NoOtherCounts : Build → Type 0
NoOtherCounts b = (q : Query) (name : Name) → Counts b q name → on_list name (names q) ≡ true

-- an epoch that is refused is refused with any pool
abbrev pub reached : Query → Bool
reached (orientation_of source code epoch) = in_reach epoch
reached (radii_of source code) = true

-- every name of the list does
abbrev pub AllCount : Build → Type 0
AllCount b = (q : Query) → reached q ≡ true → Each (Counts b q) (names q)

-- ---- the drive

-- two such pools give the same position and the same move: one answer meets the contract of either
pub record DriveUnread : Type 0 where
  pub position :
      (source : Source) (m m' : List ℕ) (code : ℕ) (epoch : Float) (ring : ℕ) → sound m ≡ true → sound m' ≡ true
      → Alike (orientation_of source code epoch) (decode m) (decode m') → (r r' : Result ℕ Refusal)
      → Places source m code epoch ring r → Places source m' code epoch ring r' → r ≡ r'
  pub move :
      (source : Source) (m m' : List ℕ) (code : ℕ) (epoch : Float) (ring present : ℕ) → sound m ≡ true → sound m' ≡ true
      → Alike (orientation_of source code epoch) (decode m) (decode m') → (r r' : Result Motion Refusal)
      → Steps source m code epoch ring present r → Steps source m' code epoch ring present r' → r ≡ r'
