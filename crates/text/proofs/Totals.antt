-- The counts of an admitted text are those of its statements, for no value is loose and none is left out. Assumes nothing.
use Prim.Native.Nat.{ℕ}
use native.Mathlib.Omega.{arith}
use mathlib.Core.Path.{◌≡◌, refl}
use mathlib.Core.List.{List, [], ◌∷◌}
use lib.ListN.{length}
use Rattle.statement.specs.Statements.{Event, opened, value, statements, openings, givings, bytes_given}
use Rattle.text.specs.Text.{fine, read_text}
use Rattle.text.proofs.Legal.{total, total_length, all-given, all-spelled}

-- as many statements as were opened
pub all-opened : (es : List Event) → length (statements es) ≡ openings es
all-opened [] = refl
all-opened (opened n o ∷ es) = rw (all-opened es) (omega arith)
all-opened (value v ∷ es) = all-opened es

module _ (text : List ℕ) (es : List Event) (e : read_text text ≡ fine es) where
  pub statements-counted : length (statements es) ≡ openings es
  statements-counted = all-opened es

  pub values-counted : total (statements es) ≡ givings es
  values-counted = all-given text es e

  pub bytes_given-counted : total_length (statements es) ≡ bytes_given es
  bytes_given-counted = all-spelled text es e
