-- What became of 5: a refusal that had it has one of 17 to 21, and no other has one of these; every other one keeps its number; and no two
-- refusals share a number. Seen at each refusal. Assumes nothing.
use Prim.Native.Nat.{ℕ, ◌≤◌, ◌<◌}
use native.Mathlib.Omega.{arith}
use mathlib.Core.Logic.{◌↔◌}
use mathlib.Core.List.{List, [], ◌∷◌, ◌++◌}
use mathlib.Core.Path.{◌≡◌, refl, sym, ap, ◌∙◌}
use lib.ListN.{get_or}
use Rattle.refusal.specs.Before.{SYNTAX, number_before}
use Rattle.refusal.specs.Numbers.{number_of}
use Rattle.refusal.specs.declared.Refusal.{Refusal}
use Rattle.refusal.specs.declared.Refusal.TheVariants as R

-- one of the five numbers that 5 became
pub record OneOfFive (n : ℕ) : Type 0 where
  pub least : 17 ≤ n
  pub most : n ≤ 21

-- ---- a number and what it became

data Became (b n : ℕ) : Type 0 where
  split : b ≡ SYNTAX → 17 ≤ n → n ≤ 21 → Became b n
  kept : b ≡ n → n < 17 → (n ≡ SYNTAX → ⊥) → Became b n
  added : b ≡ n → 21 < n → Became b n

became : (q : Refusal) → Became (number_before q) (number_of q)
became R.LabelHeld = kept refl (omega arith) (λ e. omega arith)
became R.TextTooLong = kept refl (omega arith) (λ e. omega arith)
became R.LineTooLong = kept refl (omega arith) (λ e. omega arith)
became R.BadByte = kept refl (omega arith) (λ e. omega arith)
became R.Number = kept refl (omega arith) (λ e. omega arith)
became R.NoRoom = kept refl (omega arith) (λ e. omega arith)
became R.NotHeld = kept refl (omega arith) (λ e. omega arith)
became R.Epoch = kept refl (omega arith) (λ e. omega arith)
became R.UnknownBody = kept refl (omega arith) (λ e. omega arith)
became R.Incomplete = kept refl (omega arith) (λ e. omega arith)
became R.WrongCount = kept refl (omega arith) (λ e. omega arith)
became R.NoVariable = kept refl (omega arith) (λ e. omega arith)
became R.ShortBuffer = kept refl (omega arith) (λ e. omega arith)
became R.DamagedPool = kept refl (omega arith) (λ e. omega arith)
became R.MixedKind = kept refl (omega arith) (λ e. omega arith)
became R.BadName = split refl (omega arith) (omega arith)
became R.NoOperator = split refl (omega arith) (omega arith)
became R.BadValue = split refl (omega arith) (omega arith)
became R.OpenList = split refl (omega arith) (omega arith)
became R.RestOfLine = split refl (omega arith) (omega arith)
became R.TextOpen = added refl (omega arith)
became R.BadDegree = added refl (omega arith)
became R.BadRadius = added refl (omega arith)
became R.BadRing = added refl (omega arith)
became R.BadPosition = added refl (omega arith)

-- the five numbers stand where 5 stood, and nowhere else
pub five-split : (q : Refusal) → (number_before q ≡ SYNTAX) ↔ OneOfFive (number_of q)
five-split q = by (became q)
  where
    by : Became (number_before q) (number_of q) → (number_before q ≡ SYNTAX) ↔ OneOfFive (number_of q)
    by (split e h g) = (λ x. record { least = h; most = g }, λ x. e)
    by (kept e h g) = (λ x. absurd (g (sym e ∙ x)), λ x. absurd (omega (arith, x.least)))
    by (added e h) = (λ x. absurd (omega arith), λ x. absurd (omega (arith, x.most)))

-- all other numbers stay
pub others-stay : (q : Refusal) → (number_before q ≡ SYNTAX → ⊥) → number_before q ≡ number_of q
others-stay q h = by (became q)
  where
    by : Became (number_before q) (number_of q) → number_before q ≡ number_of q
    by (split e x y) = absurd (h e)
    by (kept e x y) = e
    by (added e x) = e

-- ---- no number twice

-- the refusals in the order of their numbers, from 0 on, and any of them where a number is not given
abbrev first : List Refusal
first = R.LabelHeld ∷ R.LabelHeld ∷ R.TextTooLong ∷ R.LineTooLong ∷ R.BadByte ∷ R.LabelHeld ∷ R.Number ∷ R.NoRoom ∷ R.NotHeld ∷ R.Epoch ∷ []

abbrev later : List Refusal
later = R.UnknownBody ∷ R.Incomplete ∷ R.WrongCount ∷ R.NoVariable ∷ R.ShortBuffer ∷ R.DamagedPool ∷ R.MixedKind ∷ R.BadName ∷ R.NoOperator ∷ R.BadValue ∷ R.OpenList ∷ R.RestOfLine ∷ []

-- from 22 on
abbrev last : List Refusal
last = R.TextOpen ∷ R.BadDegree ∷ R.BadRadius ∷ R.BadRing ∷ R.BadPosition ∷ []

abbrev named : ℕ → Refusal
named n = get_or (first ++ later ++ last) n R.LabelHeld

named_back : (q : Refusal) → named (number_of q) ≡ q
named_back R.LabelHeld = refl
named_back R.TextTooLong = refl
named_back R.LineTooLong = refl
named_back R.BadByte = refl
named_back R.Number = refl
named_back R.NoRoom = refl
named_back R.NotHeld = refl
named_back R.Epoch = refl
named_back R.UnknownBody = refl
named_back R.Incomplete = refl
named_back R.WrongCount = refl
named_back R.NoVariable = refl
named_back R.ShortBuffer = refl
named_back R.DamagedPool = refl
named_back R.MixedKind = refl
named_back R.BadName = refl
named_back R.NoOperator = refl
named_back R.BadValue = refl
named_back R.OpenList = refl
named_back R.RestOfLine = refl
named_back R.TextOpen = refl
named_back R.BadDegree = refl
named_back R.BadRadius = refl
named_back R.BadRing = refl
named_back R.BadPosition = refl

pub same_number : (p q : Refusal) → number_of p ≡ number_of q → p ≡ q
same_number p q e = sym (named_back p) ∙ ap named e ∙ named_back q
