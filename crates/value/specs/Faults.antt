-- What may be wrong with a line, and the refusal that it is: "in it 3, then 4, then whichever of 5 and 6 starts at the earlier byte", and "5
-- becomes 17 BAD NAME, 18 NO OPERATOR, 19 BAD VALUE (K2's faults too, a second kind at its first value, and there before 6), 20 OPEN LIST
-- (also an empty one), 21 REST OF LINE; all stand where 5 stood" (document 02, K3). Definitions only. A fault goes with its place in the
-- line, counted in bytes from 0.
use Rattle.std.specs.Prelude.{ℕ}
use Rattle.refusal.specs.declared.Refusal.{Refusal}
use Rattle.refusal.specs.declared.Refusal.TheVariants as R
use Rattle.value.specs.declared.faults.Fault.{Fault}
use Rattle.value.specs.declared.faults.Fault.TheVariants as F
use Rattle.value.specs.declared.faults.LineFault.{LineFault}

-- a fault at a place of its line
abbrev pub faulty : Fault → (place : ℕ) → LineFault
faulty q k = record { fault = q; place = k }

abbrev pub refusal_of : Fault → Refusal
refusal_of F.TooLong = R.LineTooLong
refusal_of F.BadByte = R.BadByte
refusal_of F.BadName = R.BadName
refusal_of F.NoOperator = R.NoOperator
refusal_of F.BadValue = R.BadValue
refusal_of F.OpenList = R.OpenList
refusal_of F.RestOfLine = R.RestOfLine
refusal_of F.OutsideClass = R.Number
