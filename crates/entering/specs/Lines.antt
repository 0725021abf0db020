-- A line of an open text as the code takes it: what is needed of the memory before it, and what is left. Definitions only.
use Rattle.std.specs.Prelude.{ℕ, ◌+◌, ◌≤◌, ◌≡◌, true, List, [], ◌∷◌, ◌++◌, length, take}
use Rattle.statement.specs.Statements.{Values, numbers, strings, Statement, Event, openings, givings, bytes_given}
use Rattle.statement.specs.declared.values.Kind.{Kind}
use Rattle.statement.specs.declared.values.Kind.TheVariants as K
use Rattle.statement.specs.declared.values.Reader.{Reader}
use Rattle.statement.specs.declared.values.Reader.TheVariants as R
use Rattle.text.specs.Line.{next, answered}
use Rattle.layout.specs.State.{flat, values_of, bytes_of}
use Rattle.layout.specs.Limits.{TEXTS, HEADS_AT}
use Rattle.layout.specs.Memory.{decode, laid_behind}
use Rattle.layout.specs.Damage.{orderly}
use Rattle.bookmark.specs.declared.mark.Entered.{Entered}
use Rattle.bookmark.specs.declared.mark.Standing.{Standing}
use Rattle.bookmark.specs.declared.mark.Standing.TheVariants as S
use Rattle.opening.specs.Storing.{PLACEHOLDER, extended, fitting, Storable}
use Rattle.entering.specs.declared.line.Seen.{Seen}
use Rattle.entering.specs.declared.line.Seen.TheVariants as W
use Rattle.entering.specs.Entries.{entry, body_of, progress_of, complete_on}

-- ---- before a line

-- the values of a list that has this kind so far
abbrev pub Fills : Kind → Values → Type 0
Fills K.Empty v = v ≡ PLACEHOLDER
Fills K.Numbers (numbers bs) = Unit
Fills K.Numbers (strings ss) = ⊥
Fills K.Strings (numbers bs) = ⊥
Fills K.Strings (strings ss) = Unit

pub record Listing (k : Kind) (body : List Statement) : Type 0 where
  pub before : List Statement
  pub last : Statement
  pub split : body ≡ before ++ last ∷ []
  pub fills : Fills k last.values

-- a reader in a list is borne out by the statement stored last
abbrev pub Bears : Reader → List Statement → Type 0
Bears R.Text body = Unit
Bears R.Data body = Unit
Bears (R.List k) body = Listing k body

abbrev pub Borne : Standing → List Statement → Type 0
Borne (S.Storing r) body = Bears r body
Borne (S.Overflowed r) body = Unit
Borne (S.Faulted f) body = Unit

-- what is stored of the text stands behind the held texts, of which there is no complaint, and is counted
pub record Ready (m : List ℕ) (e : Entered) : Type 0 where
  pub held : orderly TEXTS m ≡ true
  pub stands : laid_behind (decode m) (body_of (entry m e)) m ≡ m
  pub statements : e.statements ≡ length (body_of (entry m e))
  pub values : e.values ≡ length (flat values_of (body_of (entry m e)))
  pub bytes : e.bytes ≡ length (flat bytes_of (body_of (entry m e)))
  pub storable : Storable (decode m) (progress_of (entry m e))
  pub borne : Borne e.standing (body_of (entry m e))

-- ---- after it

pub record Completes (m : List ℕ) (e : Entered) (number : ℕ) (line after : List ℕ) (r : Entered) : Type 0 where
  pub is : entry after r ≡ complete_on (entry m e) number line
  pub ready : Ready after r
  pub same : decode after ≡ decode m
  pub front : take HEADS_AT after ≡ take HEADS_AT m

-- ---- a line without a fault, of a text that is stored so far

-- its outcome, counted
pub record Steps (reader : Reader) (line : List ℕ) (after : Reader) (opened given spelled : ℕ) : Type 0 where
  pub events : List Event
  pub is : answered reader line ≡ next after events
  pub opens : openings events ≡ opened
  pub gives : givings events ≡ given
  pub spells : bytes_given events ≡ spelled

-- it adds something, and that fits
pub record Adds (m : List ℕ) (e : Entered) (reader : Reader) (line : List ℕ) (given : ℕ) : Type 0 where
  pub after : Reader
  pub events : List Event
  pub ready : Ready m e
  pub standing : e.standing ≡ S.Storing reader
  pub is : answered reader line ≡ next after events
  pub fits : fitting (decode m) (extended reader (body_of (entry m e)) events) ≡ true
  pub some : 1 ≤ openings events + givings events
  pub gives : givings events ≡ given

-- it is laid behind what is held
abbrev pub Lays : (m : List ℕ) → Entered → Reader → (line after : List ℕ) → Type 0
Lays m e r line after = (q : Reader) (es : List Event) → answered r line ≡ next q es → after ≡ laid_behind (decode m) (extended r (body_of (entry m e)) es) m

-- ---- a line that is looked at

abbrev pub Looks : (m : List ℕ) → Entered → (number : ℕ) → (line : List ℕ) → Seen → Type 0
Looks m e number line (W.Unwritten x) = Completes m e number line m x
Looks m e number line (W.Written x r given) = Adds m e r line given × ((after : List ℕ) → Lays m e r line after → Completes m e number line after x)
