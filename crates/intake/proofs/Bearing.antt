-- A reader that is believed as far as the last statement bears it out is borne out by the body; and the last head and value tell what it needs to know
-- of that statement. Assumes nothing.
use Prim.Native.Nat.{ℕ}
use native.Mathlib.Omega.{arith}
use mathlib.Core.Path.{◌≡◌, refl, sym, ap, ◌∙◌}
use mathlib.Core.Bool.{Bool, true, false}
use mathlib.Core.List.{List, [], ◌∷◌, ◌++◌}
use borrow.Author.Tests.{eqb-true}
use lib.Dec.{eqb}
use Rattle.text.specs.declared.TextFault.{TextFault}
use Rattle.statement.specs.Statements.{Values, numbers, strings, Statement, how_many}
use Rattle.statement.specs.declared.values.Kind.{Kind}
use Rattle.statement.specs.declared.values.Kind.TheVariants as K
use Rattle.statement.specs.declared.values.Reader.{Reader}
use Rattle.statement.specs.declared.values.Reader.TheVariants as R
use Rattle.layout.specs.Memory.{kind_number}
use Rattle.bookmark.specs.Borne.{list_of, settled_reader}
use Rattle.bookmark.specs.declared.mark.Entered.{Entered}
use Rattle.bookmark.specs.declared.mark.Standing.{Standing}
use Rattle.bookmark.specs.declared.mark.Standing.TheVariants as S
use Rattle.entering.specs.Lines.{Fills, Bears, Borne}
use Rattle.intake.specs.Opened.{is_strings, is_place, borne_reader, borne_standing, borne}

-- ---- borne out

bears-behind : (x : Statement) (r : Reader) (ss : List Statement) → Bears r ss → Bears r (x ∷ ss)
bears-behind x R.Text ss b = tt
bears-behind x R.Data ss b = tt
bears-behind x (R.List k) ss b =
    record { before = x ∷ b.before; last = b.last; split = ap (λ (l : List Statement). x ∷ l) b.split; fills = b.fills }

-- a list of the last statement's kind
fills-last : (v : Values) (k : Kind) → Fills (list_of (is_strings v) (is_place v) k) v
fills-last (strings ss) k = tt
fills-last (numbers []) k = tt
fills-last (numbers (b ∷ c ∷ bs)) k = tt
fills-last (numbers (b ∷ [])) k = by (eqb b 0) refl k
  where
    by : (t : Bool) → eqb b 0 ≡ t → (k : Kind) → Fills (list_of false t k) (numbers (b ∷ []))
    by false e k = tt
    by true e K.Empty = ap (λ (x : ℕ). numbers (x ∷ [])) (eqb-true b 0 e)
    by true e K.Numbers = tt
    by true e K.Strings = tt

bears-settled : (ss : List Statement) (r : Reader) → Bears (borne_reader ss r) ss
bears-settled [] R.Text = tt
bears-settled [] R.Data = tt
bears-settled [] (R.List k) = tt
bears-settled (x ∷ []) R.Text = tt
bears-settled (x ∷ []) R.Data = tt
bears-settled (x ∷ []) (R.List k) = record { before = []; last = x; split = refl; fills = fills-last x.values k }
bears-settled (x ∷ y ∷ ss) r = bears-behind x (borne_reader (y ∷ ss) r) (y ∷ ss) (bears-settled (y ∷ ss) r)

pub borne-settled : (ss : List Statement) (t : Standing) → Borne (borne_standing ss t) ss
borne-settled ss (S.Storing r) = bears-settled ss r
borne-settled ss (S.Overflowed r) = tt
borne-settled ss (S.Faulted f) = tt

-- ---- by the statement stored last

pub borne-last : (ss : List Statement) (x : Statement) (r : Reader) → borne_reader (ss ++ x ∷ []) r ≡ settled_reader true (is_strings x.values) (is_place x.values) r
borne-last [] x r = refl
borne-last (y ∷ []) x r = refl
borne-last (y ∷ z ∷ ss) x r = borne-last (z ∷ ss) x r

pub of-strings : (v : Values) → (kind_number v ≡ 0 → ⊥) → (is_strings v ≡ true) × (is_place v ≡ false)
of-strings (numbers bs) n = absurd (n refl)
of-strings (strings ss) n = (refl, refl)

pub of-numbers : (v : Values) → kind_number v ≡ 0 → is_strings v ≡ false
of-numbers (numbers bs) e = refl
of-numbers (strings ss) e = absurd (omega arith)

pub of-many : (v : Values) → kind_number v ≡ 0 → (how_many v ≡ 1 → ⊥) → is_place v ≡ false
of-many (numbers []) e n = refl
of-many (numbers (b ∷ [])) e n = absurd (n refl)
of-many (numbers (b ∷ c ∷ bs)) e n = refl
of-many (strings ss) e n = refl

pub record Sole (v : Values) : Type 0 where
  pub word : ℕ
  pub is : v ≡ numbers (word ∷ [])

pub of_one : (v : Values) → kind_number v ≡ 0 → how_many v ≡ 1 → Sole v
of_one (numbers []) e n = absurd (omega arith)
of_one (numbers (b ∷ [])) e n = record { word = b; is = refl }
of_one (numbers (b ∷ c ∷ bs)) e n = absurd (omega arith)
of_one (strings ss) e n = absurd (omega arith)

-- ---- of what the complete lines came to

module _ (ss : List Statement) (e : Entered) where
  pub borne-storing : (r q : Reader) → e.standing ≡ S.Storing r → q ≡ borne_reader ss r
      → record { standing = S.Storing q; statements = e.statements; values = e.values; bytes = e.bytes } ≡ borne ss e
  borne-storing r q h k =
      λ i. record { standing = (ap S.Storing k ∙ sym (ap (borne_standing ss) h)) i; statements = e.statements; values = e.values; bytes = e.bytes }

  borne-same : borne_standing ss e.standing ≡ e.standing → e ≡ borne ss e
  borne-same k = λ i. record { standing = sym k i; statements = e.statements; values = e.values; bytes = e.bytes }

  pub borne-overflowed : (r : Reader) → e.standing ≡ S.Overflowed r → e ≡ borne ss e
  borne-overflowed r h = borne-same (ap (borne_standing ss) h ∙ sym h)

  pub borne-faulted : (f : TextFault) → e.standing ≡ S.Faulted f → e ≡ borne ss e
  borne-faulted f h = borne-same (ap (borne_standing ss) h ∙ sym h)
