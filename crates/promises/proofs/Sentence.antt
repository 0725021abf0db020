-- A variable is what the sentence says, and what the statements make of it one after the other: `since` cuts at the last direct
-- assignment. Assumes nothing.
use Prim.Native.Nat.{ℕ}
use mathlib.Core.Path.{◌≡◌, refl, sym, ap, ◌∙◌}
use mathlib.Core.Bool.{Bool, true, false, ◌&&◌}
use mathlib.Core.Logic.{inl, inr}
use mathlib.Core.List.{List, [], ◌∷◌, ◌++◌, append_assoc, append-nil}
use Rattle.std.specs.Prelude.{if◌then◌else◌}
use Rattle.statement.specs.Statements.{Statement}
use Rattle.plain.proofs.Tests.{true-false}
use Rattle.layout.specs.State.{program, flat}
use Rattle.variables.specs.Variables.{Datum, is_direct, has, assigns, any, since, each, gives, variable}
use Rattle.variables.proofs.Since.{since-all}
use Rattle.promises.specs.Sentence.{given, Said, Sentence, onto, forward, Forward}

-- a statement with the name or without it, direct or appending, before a direct assignment or before none
cases : (h d b : Bool) (v xs since rest : List Datum)
    → (if b then since else ((if h then (if d then v else xs ++ v) else xs) ++ rest))
    ≡ (if (if h && d then true else b) then (if b then since else ((if h then v else []) ++ rest)) else (xs ++ ((if h then v else []) ++ rest)))
cases true true true v xs since rest = refl
cases true true false v xs since rest = refl
cases true false true v xs since rest = refl
cases true false false v xs since rest = append_assoc xs v rest
cases false true true v xs since rest = refl
cases false true false v xs since rest = refl
cases false false true v xs since rest = refl
cases false false false v xs since rest = refl

module _ (name : List ℕ) where
  -- ---- the sentence

  -- a direct assignment has the name
  direct-gives : (s : Statement) → assigns name s ≡ true → gives name s ≡ each s.values
  direct-gives s e = by (has name s) (is_direct s.operator) e
    where
      by : (b d : Bool) → (b && d) ≡ true → (if b then each s.values else []) ≡ each s.values
      by true d e = refl
      by false d e = true-false (sym e)

  said-behind : (s : Statement) (ss : List Statement) (xs : List Datum) → any (assigns name) ss ≡ true → Said name ss xs → Said name (s ∷ ss) xs
  said-behind s ss xs e (inl l) = inl (record {
    before = s ∷ l.before;
    last = l.last;
    later = l.later;
    order = ap (λ (l : List Statement). s ∷ l) l.order;
    direct = l.direct;
    none = l.none;
    are = l.are;
  })
  said-behind s ss xs e (inr n) = true-false (sym e ∙ n.none)

  said-first : (s : Statement) (ss : List Statement) (b : Bool) → any (assigns name) ss ≡ false → assigns name s ≡ b → Said name (s ∷ ss) (gives name s ++ given name ss)
  unfolding any flat
  said-first s ss true e d =
      inl (record { before = []; last = s; later = ss; order = refl; direct = d; none = e; are = ap (λ (xs : List Datum). xs ++ given name ss) (direct-gives s d) })
  said-first s ss false e d = inr (record { none = rw d e; are = refl })

  said : (ss : List Statement) → Said name ss (given name (since name ss))
  unfolding since any flat
  said [] = inr (record { none = refl; are = refl })
  said (s ∷ ss) = by (any (assigns name) ss) refl (said ss)
    where
      by : (b : Bool) → any (assigns name) ss ≡ b → Said name ss (given name (since name ss)) → Said name (s ∷ ss) (given name (if b then since name ss else (s ∷ ss)))
      by true e h = said-behind s ss (given name (since name ss)) e h
      by false e h = said-first s ss (assigns name s) e refl

  -- ---- statement by statement

  -- with one statement more in front
  since-cons : (s : Statement) (ss : List Statement) (b : Bool) → any (assigns name) ss ≡ b
      → given name (since name (s ∷ ss)) ≡ (if b then given name (since name ss) else (gives name s ++ given name ss))
  unfolding since flat
  since-cons s ss true e = rw e
  since-cons s ss false e = rw e

  -- the values before count unless there is a direct assignment
  forward-since : (ss : List Statement) (xs : List Datum) → forward name xs ss ≡ (if any (assigns name) ss then given name (since name ss) else (xs ++ given name ss))
  unfolding forward any flat
  forward-since [] xs = sym (append-nil xs)
  forward-since (s ∷ ss) xs =
      forward-since ss (onto name xs s)
      ∙ cases (has name s) (is_direct s.operator) (any (assigns name) ss) (each s.values) xs (given name (since name ss)) (given name ss)
      ∙ ap (λ (l : List Datum). if (if assigns name s then true else any (assigns name) ss) then l else (xs ++ (gives name s ++ given name ss)))
      (sym (since-cons s ss (any (assigns name) ss) refl))

  pub forward-variable : (ss : List Statement) → given name (since name ss) ≡ forward name [] ss
  forward-variable ss = by (any (assigns name) ss) refl ∙ sym (forward-since ss [])
    where
      by : (b : Bool) → any (assigns name) ss ≡ b → given name (since name ss) ≡ (if any (assigns name) ss then given name (since name ss) else given name ss)
      by true e = rw e
      by false e = rw (e, since-all name ss e)

pub sentence : Sentence
unfolding variable
sentence name s = said name (program s)

pub variable-forward : Forward
unfolding variable
variable-forward name s = forward-variable name (program s)
