-- What a data line's answer counts is what its values are. Assumes nothing.
use Prim.Native.Nat.{ℕ, ◌-◌}
use mathlib.Core.Path.{◌≡◌, refl}
use mathlib.Core.List.{List, [], ◌∷◌}
use lib.ListN.{take, drop}
use Rattle.statement.specs.Statements.{opened}
use Rattle.statement.specs.Values.{Given, given, wrong, given_at, taken}
use Rattle.std.specs.Prelude.{Some, Ok}
use Rattle.statement.specs.declared.head.Named.{Named}
use Rattle.statement.proofs.Events.{openings-values, givings-values, bytes_given-values}
use Rattle.text.specs.Line.{adding, stated, counted, answer_of}

pub counted-list : (g : Given) → answer_of 0 (taken g) ≡ counted (adding [] g)
counted-list (given r vs) = rw (openings-values vs, givings-values vs, bytes_given-values vs)
counted-list (wrong q k) = refl

pub counted-statement : (line : List ℕ) (h : Named) → answer_of 1 (taken (given_at line h.at)) ≡ counted (stated line (Ok (Some h)))
counted-statement line h = by (given_at line h.at)
  where
    by : (g : Given) → answer_of 1 (taken g) ≡ counted (adding (opened (take (h.end - h.start) (drop h.start line)) h.operator ∷ []) g)
    by (given r vs) = rw (openings-values vs, givings-values vs, bytes_given-values vs)
    by (wrong f k) = refl
