-- The numbers as they were before document 02's K3, where "5 SYNTAX" was any broken form; a refusal that came later has its own. Definitions
-- only: with it a theorem can say what became of 5.
use Rattle.std.specs.Prelude.{ℕ}
use Rattle.refusal.specs.declared.Refusal.{Refusal}
use Rattle.refusal.specs.declared.Refusal.TheVariants as R

abbrev pub SYNTAX : ℕ
SYNTAX = 5

abbrev pub number_before : Refusal → ℕ
number_before R.LabelHeld = 1
number_before R.TextTooLong = 2
number_before R.LineTooLong = 3
number_before R.BadByte = 4
number_before R.Number = 6
number_before R.NoRoom = 7
number_before R.NotHeld = 8
number_before R.Epoch = 9
number_before R.UnknownBody = 10
number_before R.Incomplete = 11
number_before R.WrongCount = 12
number_before R.NoVariable = 13
number_before R.ShortBuffer = 14
number_before R.DamagedPool = 15
number_before R.MixedKind = 16
number_before R.BadName = SYNTAX
number_before R.NoOperator = SYNTAX
number_before R.BadValue = SYNTAX
number_before R.OpenList = SYNTAX
number_before R.RestOfLine = SYNTAX
number_before R.TextOpen = 22
number_before R.BadDegree = 23
number_before R.BadRadius = 24
number_before R.BadRing = 25
number_before R.BadPosition = 26
