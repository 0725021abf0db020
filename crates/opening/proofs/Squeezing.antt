-- Whatever an open text has come to, what is kept of a line is enough: a line is completed by its answer, and that squeezing keeps. Assumes nothing.
use Prim.Native.Nat.{ℕ, ◌≤◌}
use mathlib.Core.Path.{◌≡◌, refl, ap}
use mathlib.Core.List.{List, ◌∷◌, ◌++◌}
use lib.ListN.{length}
use Rattle.statement.specs.Statements.{Statement}
use Rattle.text.specs.Line.{Outcome}
use Rattle.layout.specs.State.{Pool}
use Rattle.feeding.specs.Kept.{ROOM, squeezed}
use Rattle.feeding.proofs.Completing.{answered-squeezed}
use Rattle.feeding.proofs.Keeping.{Squeezes}
use Rattle.bookmark.specs.declared.mark.Standing.{Standing}
use Rattle.bookmark.specs.declared.mark.Standing.TheVariants as S
use Rattle.opening.specs.Storing.{storing_line, overflowed_line, by_standing, complete}

pub complete-squeezes : (s : Pool) → Squeezes (complete s)
unfolding complete
complete-squeezes s = record { squeezes = λ p number k b l. by p.body p.standing number k b l }
  where
    by : (body : List Statement) (t : Standing) (number : ℕ) (k : List ℕ) (b : ℕ) (l : List ℕ) → ROOM ≤ length k
        → by_standing s body t number (k ++ b ∷ l) ≡ by_standing s body t number (squeezed k b ++ l)
    by body (S.Storing r) number k b l h = ap (λ (o : Outcome). storing_line s r body o number) (answered-squeezed r k b l h)
    by body (S.Overflowed r) number k b l h = ap (λ (o : Outcome). overflowed_line body o number) (answered-squeezed r k b l h)
    by body (S.Faulted f) number k b l h = refl
