-- What is stored of an open text can be held beside the held texts after every line, whatever was stored before: a line keeps statements fair, and
-- nothing is stored that does not fit. Assumes nothing.
use Prim.Native.Nat.{ℕ}
use mathlib.Core.Path.{◌≡◌, refl}
use mathlib.Core.Bool.{Bool, true, false}
use mathlib.Core.List.{List, []}
use Rattle.plain.proofs.Each.{Each}
use Rattle.value.specs.Faults.{faulty}
use Rattle.statement.specs.Statements.{Statement}
use Rattle.statement.specs.declared.values.Reader.{Reader}
use Rattle.text.specs.Line.{Outcome, next, fault, answered}
use Rattle.text.specs.Text.{in_line}
use Rattle.layout.specs.State.{Pool}
use Rattle.layout.specs.Limits.{room}
use Rattle.layout.proofs.Legal.{Fair}
use Rattle.bookmark.specs.declared.mark.Standing.{Standing}
use Rattle.bookmark.specs.declared.mark.Standing.TheVariants as S
use Rattle.opening.specs.Storing.{Progress, extended, fitting, stored}
pub use Rattle.opening.specs.Storing.{Storable}
use Rattle.opening.specs.Storing.{storing_line, overflowed_line, by_standing, complete}
use Rattle.opening.proofs.Lines.{Faultless, every-line}
use Rattle.opening.proofs.Fitting.{by_room, fitting-none}
use Rattle.opening.proofs.Fair.{KeepsFair, fair-line}

module _ (s : Pool) (e : room s ≡ true) where
  nothing : (t : Standing) → Storable s (record { body = []; standing = t })
  nothing t = record { fits = fitting-none s e; fair = tt }

  storable-by : (r : Reader) (body : List Statement) → Each Fair body → Storable s (stored s r body)
  storable-by r body f = by (fitting s body) refl
    where
      by : (t : Bool) → fitting s body ≡ t → Storable s (by_room t r body)
      by true g = record { fits = g; fair = f }
      by false g = nothing (S.Overflowed r)

  storable-line : (r : Reader) (body : List Statement) (number : ℕ) → Storable s (record { body = body; standing = S.Storing r })
      → (o : Outcome) → Faultless KeepsFair r o → Storable s (storing_line s r body o number)
  storable-line r body number h (next q fs) f = storable-by q (extended r body fs) (f body h.fair)
  storable-line r body number h (fault q k) f = nothing (S.Faulted (in_line number (faulty q k)))

  lost-line : (r : Reader) (body : List Statement) (number : ℕ) → Storable s (record { body = body; standing = S.Overflowed r })
      → (o : Outcome) → Storable s (overflowed_line body o number)
  lost-line r body number h (next q fs) = record { fits = h.fits; fair = h.fair }
  lost-line r body number h (fault q k) = nothing (S.Faulted (in_line number (faulty q k)))

  -- from any progress on
  pub storable : (p : Progress) → Storable s p → (number : ℕ) (line : List ℕ) → Storable s (complete s p number line)
  unfolding complete
  storable p h number line = by p.body p.standing h
    where
      by : (body : List Statement) (t : Standing) → Storable s (record { body = body; standing = t }) → Storable s (by_standing s body t number line)
      by body (S.Storing r) h = storable-line r body number h (answered r line) (every-line KeepsFair fair-line r line)
      by body (S.Overflowed r) h = lost-line r body number h (answered r line)
      by body (S.Faulted f) h = h
