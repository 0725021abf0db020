-- What the four variables and the degree of the angles come to: 11, then 23, then 16, then 12, or their counts. Definitions only.
use Rattle.std.specs.Prelude.{ℕ, ◌+◌, ◌*◌, Bool, if◌then◌else◌, Option, Some, None, Result, Ok, Err}
use Rattle.refusal.specs.declared.Refusal.{Refusal}
use Rattle.refusal.specs.declared.Refusal.TheVariants.{Incomplete, BadDegree, MixedKind, WrongCount}
use Rattle.rotation.specs.Elements.{CUBIC, GROUPS}
use Rattle.variables.specs.declared.variable.FindError.{FindError}
use Rattle.variables.specs.declared.variable.FindError.TheVariants as F
use Rattle.wanted.specs.Elements.{enough_groups}
use Rattle.wanted.specs.Steps.{is_there}
use Rattle.nutation.specs.Found.{any_mixed}
use Rattle.nutation.specs.declared.terms.Lengths.{Lengths}

-- the most coefficients, one for each angle, and the most values of angles, at the highest degree
abbrev pub COEFFICIENTS : ℕ
COEFFICIENTS = GROUPS

abbrev pub ANGLES : ℕ
ANGLES = (CUBIC + 1) * GROUPS

-- how many coefficients; one more than the most, where there are too many
abbrev pub count_of : Result ℕ FindError → ℕ
count_of (Ok n) = n
count_of (Err F.TooMany) = COEFFICIENTS + 1
count_of (Err F.Mixed) = 0
count_of (Err F.Absent) = 0

-- "12 asks whole groups and enough of them"
abbrev pub weighed : (degree angles ra dec pm : ℕ) → Result Lengths Refusal
weighed degree angles ra dec pm =
    if enough_groups degree angles ra dec pm
    then Ok (record { degree = degree; angles = angles; ra = ra; dec = dec; pm = pm })
    else Err WrongCount

-- where the angles are there and none of the four has a string
abbrev pub counted_of : (degree : ℕ) (angles ra dec pm : Result ℕ FindError) → Result Lengths Refusal
counted_of degree (Ok n) ra dec pm = weighed degree n (count_of ra) (count_of dec) (count_of pm)
counted_of degree (Err e) ra dec pm = Err WrongCount

-- where the angles are there and of a degree; `mixed` tells that pole or meridian has a string
abbrev pub terms_at : Option ℕ → (mixed : Bool) (angles ra dec pm : Result ℕ FindError) → Result Lengths Refusal
terms_at (Some d) mixed angles ra dec pm =
    if mixed then Err MixedKind else (if any_mixed angles ra dec pm then Err MixedKind else counted_of d angles ra dec pm)
terms_at None mixed angles ra dec pm = Err BadDegree

abbrev pub terms_of : Option ℕ → (mixed : Bool) (angles ra dec pm : Result ℕ FindError) → Result Lengths Refusal
terms_of degree mixed angles ra dec pm = if is_there angles then terms_at degree mixed angles ra dec pm else Err Incomplete
