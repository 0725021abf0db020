-- What a line adds to the statements so far: nothing, a statement behind them, or values to the last one. Assumes nothing.
use mathlib.Core.Path.{◌≡◌, refl, ap, ◌∙◌}
use mathlib.Core.List.{List, [], ◌∷◌, ◌++◌, map, append-nil}
use Prim.Native.Nat.{ℕ}
use Rattle.value.specs.Value.{Value}
use Rattle.statement.specs.Statements.{opened, value, Statement, of_one_kind, gathered}
use Rattle.statement.specs.declared.head.Operator.{Operator}
use Rattle.statement.specs.declared.values.Kind.{Kind}
use Rattle.statement.specs.declared.values.Reader.{Reader}
use Rattle.statement.specs.declared.values.Reader.TheVariants as R
use Rattle.opening.specs.Storing.{placed, of_kind, gone_on, on_last, extended}
use Rattle.opening.proofs.Lines.{Outside}

-- a statement with such values, stored
abbrev pub stating : (name : List ℕ) → Operator → List Value → Statement
stating n o vs = record { name = n; operator = o; values = placed (of_one_kind vs) }

pub gathered-values : (vs : List Value) → gathered (map value vs) ≡ record { loose = vs; statements = [] }
gathered-values [] = refl
gathered-values (v ∷ vs) = rw (gathered-values vs)

-- outside a list nothing goes on
last-same : (r : Reader) (vs : List Value) (ss : List Statement) → Outside r → on_last (gone_on r vs) ss ≡ ss
last-same R.Text vs [] f = refl
last-same R.Text vs (s ∷ []) f = refl
last-same R.Text vs (s ∷ t ∷ ss) f = ap (λ (l : List Statement). s ∷ l) (last-same R.Text vs (t ∷ ss) f)
last-same R.Data vs [] f = refl
last-same R.Data vs (s ∷ []) f = refl
last-same R.Data vs (s ∷ t ∷ ss) f = ap (λ (l : List Statement). s ∷ l) (last-same R.Data vs (t ∷ ss) f)
last-same (R.List k) vs ss f = absurd f

module _ (body : List Statement) where
  pub extended_none : (r : Reader) → Outside r → extended r body [] ≡ body
  unfolding extended
  extended_none r f = append-nil (on_last (gone_on r []) body) ∙ last-same r [] body f

  pub extended-opened : (n : List ℕ) (o : Operator) (vs : List Value) → extended R.Data body (opened n o ∷ map value vs) ≡ body ++ stating n o vs ∷ []
  unfolding extended
  extended-opened n o vs = rw (last-same R.Data [] body tt, gathered-values vs)

  pub extended-given : (k : Kind) (ws : List Value) → extended (R.List k) body (map value ws) ≡ on_last (of_kind k ws) body
  unfolding extended
  extended-given k ws = rw (gathered-values ws) (append-nil (on_last (of_kind k ws) body))
