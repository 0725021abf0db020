-- How an open text stands comes back from its five words: each number is read as what it was written for. Assumes nothing.
use Prim.Native.Nat.{◌+◌, ◌%◌, ◌≤◌}
use native.Mathlib.Omega.{arith}
use mathlib.Core.Path.{◌≡◌, refl, ap}
use lib.ListN.{get_or}
use Rattle.text.specs.Lengths.{LONGEST_LINE}
use Rattle.feeding.specs.Parts.{MOST}
use Rattle.value.specs.declared.faults.Fault.{Fault}
use Rattle.value.specs.declared.faults.Fault.TheVariants as F
use Rattle.statement.specs.declared.values.Kind.TheVariants as K
use Rattle.statement.specs.declared.values.Reader.{Reader}
use Rattle.statement.specs.declared.values.Reader.TheVariants as R
use Rattle.bookmark.specs.declared.mark.Standing.{Standing}
use Rattle.bookmark.specs.declared.mark.Standing.TheVariants as S
use Rattle.bookmark.specs.Limits.{COUNTS, PLACES}
use Rattle.bookmark.specs.Numbers.{reader_number, reader_of, fault_number, fault_of, standing_words, standing_of}

pub reader-back : (r : Reader) → reader_of (reader_number r) ≡ r
reader-back R.Text = refl
reader-back R.Data = refl
reader-back (R.List K.Empty) = refl
reader-back (R.List K.Numbers) = refl
reader-back (R.List K.Strings) = refl

pub fault-back : (q : Fault) → fault_of (fault_number q) ≡ q
fault-back F.TooLong = refl
fault-back F.BadByte = refl
fault-back F.BadName = refl
fault-back F.NoOperator = refl
fault-back F.BadValue = refl
fault-back F.OpenList = refl
fault-back F.RestOfLine = refl
fault-back F.OutsideClass = refl

-- a fault is on a line that is counted, at a place in it or just behind it
abbrev pub InLine : Standing → Type 0
InLine (S.Storing r) = Unit {0}
InLine (S.Overflowed r) = Unit {0}
InLine (S.Faulted f) = (f.line ≤ MOST + 1) × (f.place ≤ LONGEST_LINE)

pub standing-back : (s : Standing) → InLine s
    → standing_of (get_or (standing_words s) 0 0) (get_or (standing_words s) 1 0) (get_or (standing_words s) 2 0) (get_or (standing_words s) 3 0) (get_or (standing_words s) 4 0) ≡ s
unfolding standing_words standing_of
standing-back (S.Storing r) h = ap S.Storing (reader-back r)
standing-back (S.Overflowed r) h = ap S.Overflowed (reader-back r)
standing-back (S.Faulted f) h =
    let l : f.line % COUNTS ≡ f.line = omega (arith, h.0) in
    let p : f.place % PLACES ≡ f.place = omega (arith, h.1) in
    λ i. S.Faulted (record { fault = fault-back f.fault i; line = l i; place = p i })
