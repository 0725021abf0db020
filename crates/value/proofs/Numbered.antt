-- No two faults have one number, for the number gives the fault back. Assumes nothing.
use Prim.Native.Nat.{ℕ}
use mathlib.Core.Path.{◌≡◌, refl, sym, ap, ◌∙◌}
use lib.Dec.{eqb}
use Rattle.std.specs.Prelude.{if◌then◌else◌}
use Rattle.refusal.specs.Numbers.{number_of}
use Rattle.value.specs.Faults.{refusal_of}
use Rattle.value.specs.declared.faults.Fault.{Fault}
use Rattle.value.specs.declared.faults.Fault.TheVariants as F

-- the fault of a number
abbrev numbered : ℕ → Fault
numbered n =
    if eqb n 4 then F.BadByte
    else (if eqb n 6 then F.OutsideClass
    else (if eqb n 17 then F.BadName
    else (if eqb n 18 then F.NoOperator
    else (if eqb n 19 then F.BadValue
    else (if eqb n 20 then F.OpenList
    else (if eqb n 21 then F.RestOfLine else F.TooLong))))))

numbered-back : (q : Fault) → numbered (number_of (refusal_of q)) ≡ q
numbered-back F.TooLong = refl
numbered-back F.BadByte = refl
numbered-back F.BadName = refl
numbered-back F.NoOperator = refl
numbered-back F.BadValue = refl
numbered-back F.OpenList = refl
numbered-back F.RestOfLine = refl
numbered-back F.OutsideClass = refl

pub same-fault : (p q : Fault) → number_of (refusal_of p) ≡ number_of (refusal_of q) → p ≡ q
same-fault p q e = sym (numbered-back p) ∙ ap numbered e ∙ numbered-back q
