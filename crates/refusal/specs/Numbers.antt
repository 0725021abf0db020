-- "Success is number 0"; the table of "Refusal numbers", a line for each refusal, with document 02's "16 MIXED KIND" and "5 becomes 17 BAD
-- NAME, 18 NO OPERATOR, 19 BAD VALUE .., 20 OPEN LIST .., 21 REST OF LINE", so that 5 is not given any more, "22 TEXT OPEN",
-- "23 BAD DEGREE", "24 BAD RADIUS", "25 BAD RING" and "26 BAD POSITION". Definitions only.
use Rattle.std.specs.Prelude.{ℕ}
use Rattle.refusal.specs.declared.Refusal.{Refusal}
use Rattle.refusal.specs.declared.Refusal.TheVariants as R

abbrev pub SUCCESS : ℕ
SUCCESS = 0

abbrev pub number_of : Refusal → ℕ
number_of R.LabelHeld = 1
number_of R.TextTooLong = 2
number_of R.LineTooLong = 3
number_of R.BadByte = 4
number_of R.Number = 6
number_of R.NoRoom = 7
number_of R.NotHeld = 8
number_of R.Epoch = 9
number_of R.UnknownBody = 10
number_of R.Incomplete = 11
number_of R.WrongCount = 12
number_of R.NoVariable = 13
number_of R.ShortBuffer = 14
number_of R.DamagedPool = 15
number_of R.MixedKind = 16
number_of R.BadName = 17
number_of R.NoOperator = 18
number_of R.BadValue = 19
number_of R.OpenList = 20
number_of R.RestOfLine = 21
number_of R.TextOpen = 22
number_of R.BadDegree = 23
number_of R.BadRadius = 24
number_of R.BadRing = 25
number_of R.BadPosition = 26
