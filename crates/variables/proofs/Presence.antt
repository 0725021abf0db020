-- A variable that is not there has no values, and where every statement has one, a variable that is there has some. Assumes nothing.
use Prim.Native.Nat.{ℕ, ◌≤◌}
use mathlib.Core.Path.{◌≡◌, refl, sym, ap, ◌∙◌}
use mathlib.Core.Bool.{Bool, true, false, ◌&&◌}
use mathlib.Core.List.{List, [], ◌∷◌, ◌++◌}
use native.Mathlib.Omega.{arith}
use lib.ListN.{length, length-append}
use Rattle.std.specs.Prelude.{if◌then◌else◌}
use Rattle.statement.specs.Statements.{how_many, Statement}
use Rattle.plain.proofs.Tests.{true-false, is_false}
use Rattle.plain.proofs.Each.{Each, each_weaken}
use Rattle.words.proofs.Same.{same-equal}
use Rattle.names.specs.Names.{legal}
use Rattle.layout.specs.State.{Pool, program, flat}
use Rattle.layout.proofs.Legal.{Fair, Legal}
use Rattle.variables.specs.Variables.{is_direct, has, assigns, any, since, each, gives, variable, present, all_numbers}
use Rattle.variables.specs.Found.{numbers_among, doubles}
use Rattle.variables.proofs.Counts.{length-each}
use Rattle.variables.proofs.Since.{none-later, since-all}

-- every statement has a value
abbrev pub Filled : List Statement → Type 0
Filled ss = Each (λ x. 1 ≤ how_many x.values) ss

module _ (name : List ℕ) where
  -- what assigns to the name has it
  none-assigns : (ss : List Statement) → any (has name) ss ≡ false → any (assigns name) ss ≡ false
  unfolding any
  none-assigns [] e = refl
  none-assigns (s ∷ ss) e = by (has name s) (is_direct s.operator) e (none-assigns ss (none-later (has name) s ss e))
    where
      by : (a b : Bool) → (if a then true else any (has name) ss) ≡ false → any (assigns name) ss ≡ false → (if a && b then true else any (assigns name) ss) ≡ false
      by true b f g = true-false f
      by false b f g = g

  some-has : (ss : List Statement) → any (assigns name) ss ≡ true → any (has name) ss ≡ true
  some-has ss e = by (any (has name) ss) refl
    where
      by : (t : Bool) → any (has name) ss ≡ t → t ≡ true
      by true f = refl
      by false f = true-false (sym e ∙ none-assigns ss f)

  given-none : (ss : List Statement) → any (has name) ss ≡ false → flat (gives name) ss ≡ []
  unfolding any flat
  given-none [] e = refl
  given-none (s ∷ ss) e = by (has name s) e (given-none ss (none-later (has name) s ss e))
    where
      by : (a : Bool) → (if a then true else any (has name) ss) ≡ false → flat (gives name) ss ≡ [] → (if a then each s.values else []) ++ flat (gives name) ss ≡ []
      by true f g = true-false f
      by false f g = g

  given-some : (ss : List Statement) → Filled ss → any (has name) ss ≡ true → 1 ≤ length (flat (gives name) ss)
  unfolding any flat
  given-some [] f e = true-false (sym e)
  given-some (s ∷ ss) f e = by (has name s) e (given-some ss f.1)
    where
      by : (a : Bool) → (if a then true else any (has name) ss) ≡ true → (any (has name) ss ≡ true → 1 ≤ length (flat (gives name) ss))
          → 1 ≤ length ((if a then each s.values else []) ++ flat (gives name) ss)
      by true g r = omega (arith, length-append (each s.values) (flat (gives name) ss), length-each s.values, f.0)
      by false g r = r g

  since-some : (ss : List Statement) → Filled ss → any (has name) ss ≡ true → 1 ≤ length (flat (gives name) (since name ss))
  unfolding since
  since-some [] f e = given-some [] f e
  since-some (s ∷ ss) f e = by (any (assigns name) ss) refl (since-some ss f.1)
    where
      by : (t : Bool) → any (assigns name) ss ≡ t → (any (has name) ss ≡ true → 1 ≤ length (flat (gives name) (since name ss)))
          → 1 ≤ length (flat (gives name) (if t then since name ss else (s ∷ ss)))
      by true g r = r (some-has ss g)
      by false g r = given-some (s ∷ ss) f e

  module _ (s : Pool) where
    pub absent-empty : present name s ≡ false → variable name s ≡ []
    unfolding present variable
    absent-empty e = ap (flat (gives name)) (since-all name (program s) (none-assigns (program s) e)) ∙ given-none (program s) e

    pub absent-doubles : present name s ≡ false → doubles name s ≡ []
    absent-doubles e = ap numbers_among (absent-empty e)

    -- and no string
    pub absent-numbers : present name s ≡ false → all_numbers (variable name s) ≡ true
    unfolding all_numbers
    absent-numbers e = ap all_numbers (absent-empty e)

    module _ (L : Legal s) where
      filled : Filled (program s)
      filled = each_weaken Fair (λ x. 1 ≤ how_many x.values) (λ x f. f.some) (program s) L.statements

      pub present-some : present name s ≡ true → 1 ≤ length (variable name s)
      unfolding present variable
      present-some e = since-some (program s) filled e

      -- so a variable is there exactly when it has a value
      pub some-present : 1 ≤ length (variable name s) → present name s ≡ true
      some-present h = by (present name s) refl
        where
          by : (t : Bool) → present name s ≡ t → t ≡ true
          by true e = refl
          by false e = absurd (omega (arith, ap length (absent-empty e)))

      pub empty-absent : length (variable name s) ≡ 0 → present name s ≡ false
      empty-absent z = is_false (present name s) (λ e. omega (arith, present-some e))

-- what is no legal name is in no statement
none_named : (name : List ℕ) (ss : List Statement) → Each Fair ss → legal name ≡ false → any (has name) ss ≡ false
unfolding any
none_named name [] f e = refl
none_named name (s ∷ ss) f e = rw (other) (none_named name ss f.1 e)
  where
    other : has name s ≡ false
    other = is_false (has name s) (λ q. true-false (sym f.0.name ∙ ap legal (same-equal s.name name q) ∙ e))

pub illegal-absent : (name : List ℕ) (s : Pool) → Legal s → legal name ≡ false → present name s ≡ false
unfolding present
illegal-absent name s L e = none_named name (program s) L.statements e
