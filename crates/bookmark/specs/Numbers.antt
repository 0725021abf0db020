-- How an open text stands as numbers: which way it goes on, how its reader stands, and its fault. Every number is read as one of them, so that no
-- word but those that document 02 names can damage a pool. Definitions only.
use Rattle.std.specs.Prelude.{ℕ, ◌%◌, List, [], ◌∷◌, eqb, get_or, if◌then◌else◌}
use Rattle.value.specs.declared.faults.Fault.{Fault}
use Rattle.value.specs.declared.faults.Fault.TheVariants as F
use Rattle.statement.specs.declared.values.Kind.TheVariants as K
use Rattle.statement.specs.declared.values.Reader.{Reader}
use Rattle.statement.specs.declared.values.Reader.TheVariants as R
use Rattle.bookmark.specs.declared.mark.Standing.{Standing}
use Rattle.bookmark.specs.declared.mark.Standing.TheVariants as S
use Rattle.bookmark.specs.Limits.{COUNTS, PLACES}

-- ---- the reader

abbrev pub reader_number : Reader → ℕ
reader_number R.Text = 0
reader_number R.Data = 1
reader_number (R.List K.Empty) = 2
reader_number (R.List K.Numbers) = 3
reader_number (R.List K.Strings) = 4

abbrev pub READERS : List Reader
READERS = R.Text ∷ R.Data ∷ R.List K.Empty ∷ R.List K.Numbers ∷ R.List K.Strings ∷ []

abbrev pub reader_of : ℕ → Reader
reader_of n = get_or READERS (n % 5) R.Text

-- ---- the fault

abbrev pub fault_number : Fault → ℕ
fault_number F.TooLong = 0
fault_number F.BadByte = 1
fault_number F.BadName = 2
fault_number F.NoOperator = 3
fault_number F.BadValue = 4
fault_number F.OpenList = 5
fault_number F.RestOfLine = 6
fault_number F.OutsideClass = 7

abbrev pub FAULTS : List Fault
FAULTS = F.TooLong ∷ F.BadByte ∷ F.BadName ∷ F.NoOperator ∷ F.BadValue ∷ F.OpenList ∷ F.RestOfLine ∷ F.OutsideClass ∷ []

abbrev pub fault_of : ℕ → Fault
fault_of n = get_or FAULTS (n % 8) F.TooLong

-- ---- both, in five words: the way, the reader, the fault, its line and its place

abbrev pub STORING : ℕ
STORING = 0

abbrev pub OVERFLOWED : ℕ
OVERFLOWED = 1

abbrev pub FAULTED : ℕ
FAULTED = 2

unfoldable pub standing_words : Standing → List ℕ
standing_words (S.Storing r) = STORING ∷ reader_number r ∷ 0 ∷ 0 ∷ 0 ∷ []
standing_words (S.Overflowed r) = OVERFLOWED ∷ reader_number r ∷ 0 ∷ 0 ∷ 0 ∷ []
standing_words (S.Faulted f) = FAULTED ∷ 0 ∷ fault_number f.fault ∷ f.line ∷ f.place ∷ []

unfoldable pub standing_of : (way reader fault line place : ℕ) → Standing
standing_of way reader fault line place =
    if eqb (way % 3) STORING then S.Storing (reader_of reader)
    else (if eqb (way % 3) OVERFLOWED then S.Overflowed (reader_of reader)
    else S.Faulted (record { fault = fault_of fault; line = line % COUNTS; place = place % PLACES }))
