-- Values that are all strings, or all none. Assumes nothing.
use mathlib.Core.Path.{◌≡◌, refl}
use mathlib.Core.Bool.{Bool, true, false, false≢true}
use mathlib.Core.List.{List, [], ◌∷◌}
use Rattle.value.specs.Value.{Value, number, string}
use Rattle.page.specs.Writing.{any_string}

abbrev pub is_string : Value → Bool
is_string (number x) = false
is_string (string s) = true

abbrev pub Alike : (strings : Bool) → List Value → Type 0
Alike b [] = Unit
Alike b (v ∷ vs) = (is_string v ≡ b) × Alike b vs

none_alike : (vs : List Value) → Alike false vs → any_string vs ≡ false
none_alike [] a = refl
none_alike (number x ∷ vs) a = none_alike vs a.1
none_alike (string s ∷ vs) a = a.0

pub any-alike : (b : Bool) (v : Value) (vs : List Value) → Alike b (v ∷ vs) → any_string (v ∷ vs) ≡ b
any-alike b (string s) vs a = a.0
any-alike false (number x) vs a = none_alike vs a.1
any-alike true (number x) vs a = absurd (false≢true a.0)
