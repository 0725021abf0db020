-- Where a variable begins, found from behind: at the first direct assignment that is met, or at the first statement. Assumes nothing.
use Prim.Native.Nat.{ℕ, zero, suc, ◌+◌}
use mathlib.Core.Path.{◌≡◌, refl, sym, ap, ◌∙◌}
use mathlib.Core.Bool.{Bool, true, false}
use mathlib.Core.List.{List, [], ◌∷◌}
use lib.ListN.{length, drop, length-append}
use Rattle.std.specs.Prelude.{if◌then◌else◌}
use Rattle.statement.specs.Statements.{Statement}
use Rattle.plain.proofs.Tests.{true-false}
use Rattle.layout.specs.State.{flat}
use Rattle.variables.specs.Variables.{assigns, any, since, gives}
use Rattle.variables.specs.Walk.{string_count}
use Rattle.variables.proofs.Counts.{count-append}

-- ---- some statement passes a test

-- none passes: none of the later ones does
pub none-later : (p : Statement → Bool) (s : Statement) (ss : List Statement) → any p (s ∷ ss) ≡ false → any p ss ≡ false
unfolding any
none-later p s ss e = by (p s) e
  where
    by : (a : Bool) → (if a then true else any p ss) ≡ false → any p ss ≡ false
    by true f = true-false f
    by false f = f

any-earlier : (p : Statement → Bool) (k : ℕ) (ss : List Statement) → any p (drop k ss) ≡ true → any p ss ≡ true
unfolding any
any-earlier p zero ss e = e
any-earlier p (suc k) [] e = e
any-earlier p (suc k) (s ∷ ss) e = by (p s) (any-earlier p k ss e)
  where
    by : (a : Bool) → any p ss ≡ true → (if a then true else any p ss) ≡ true
    by true f = refl
    by false f = f

-- ---- the statements from the last direct assignment on

module _ (name : List ℕ) where
  since-drop : (k : ℕ) (ss : List Statement) → any (assigns name) (drop k ss) ≡ true → since name ss ≡ since name (drop k ss)
  unfolding since
  since-drop zero ss e = refl
  since-drop (suc k) [] e = refl
  since-drop (suc k) (s ∷ ss) e = rw (any-earlier (assigns name) k ss e) (since-drop k ss e)

  -- there is none: all statements
  pub since-all : (ss : List Statement) → any (assigns name) ss ≡ false → since name ss ≡ ss
  unfolding since
  since-all [] e = refl
  since-all (s ∷ ss) e = rw (none-later (assigns name) s ss e)

  module _ (ss : List Statement) (x : Statement) (later : List Statement) (none : any (assigns name) later ≡ false) where
    -- it is x
    pub since-here : (k : ℕ) → drop k ss ≡ x ∷ later → assigns name x ≡ true → since name ss ≡ drop k ss
    unfolding since any
    since-here k e f =
        let d : any (assigns name) (drop k ss) ≡ true = ap (any (assigns name)) e ∙ rw f in
        since-drop k ss d ∙ ap (since name) e ∙ rw none (sym e)

    -- it is not x, and none is after x
    pub none-past : ss ≡ x ∷ later → assigns name x ≡ false → any (assigns name) ss ≡ false
    unfolding any
    none-past e f = ap (any (assigns name)) e ∙ rw (f, none)

  pub length-past : (ss : List Statement) (x : Statement) (later : List Statement) → ss ≡ x ∷ later
      → length (flat (gives name) ss) ≡ length (gives name x) + length (flat (gives name) later)
  unfolding flat
  length-past ss x later e = ap (λ (l : List Statement). length (flat (gives name) l)) e ∙ length-append (gives name x) (flat (gives name) later)

  pub count_past : (ss : List Statement) (x : Statement) (later : List Statement) → ss ≡ x ∷ later
      → string_count (flat (gives name) ss) ≡ string_count (gives name x) + string_count (flat (gives name) later)
  unfolding flat
  count_past ss x later e = ap (λ (l : List Statement). string_count (flat (gives name) l)) e ∙ count-append (gives name x) (flat (gives name) later)
